pub mod Layout
pub mod Verdict
pub mod Reading
pub mod Meaning
