pub mod Padding
pub mod Bitmaps
