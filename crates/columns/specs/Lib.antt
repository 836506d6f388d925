pub mod Offsets
pub mod Positions
pub mod Reading
pub mod Meaning
