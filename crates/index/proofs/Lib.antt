pub mod Picking
pub mod Joins
