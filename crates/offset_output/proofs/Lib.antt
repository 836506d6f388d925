pub mod Cleared
pub mod Growing
