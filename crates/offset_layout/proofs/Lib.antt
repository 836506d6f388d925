pub mod Values
pub mod Offsets
pub mod Forms
pub mod Reading
pub mod Holding
pub mod Judging
