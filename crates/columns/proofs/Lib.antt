pub mod Opened
pub mod Cutting
pub mod Positions
pub mod Meaning
