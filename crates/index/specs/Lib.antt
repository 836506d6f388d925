pub mod Index
pub mod Joining
