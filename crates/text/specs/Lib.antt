pub mod Table
pub mod Classes
pub mod Alike
pub mod Steps
pub mod Opening
pub mod Cutting
