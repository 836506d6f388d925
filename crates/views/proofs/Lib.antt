pub mod Views
pub mod Opened
pub mod Meaning
