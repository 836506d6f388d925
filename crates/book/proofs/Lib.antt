pub mod Feeding
pub mod Meaning
pub mod Listing
pub mod Dividing
pub mod Parting
