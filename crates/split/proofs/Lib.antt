pub mod Scans
pub mod Parts
pub mod Walks
pub mod Seams
pub mod Reaching
pub mod Rows
pub mod Joining
