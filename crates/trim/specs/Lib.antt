pub mod Ends
pub mod Trim
pub mod Rule
