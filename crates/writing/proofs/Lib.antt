pub mod Wiping
pub mod Padding
pub mod Bitmaps
