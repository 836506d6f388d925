pub mod Widths
pub mod Memories
pub mod Fillings
pub mod laws
