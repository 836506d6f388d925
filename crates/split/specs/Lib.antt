pub mod Occurrences
pub mod Fields
pub mod Laws
