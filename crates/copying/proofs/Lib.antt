pub mod Nulls
pub mod Keeping
