pub mod Pieces
pub mod Keeping
pub mod laws
