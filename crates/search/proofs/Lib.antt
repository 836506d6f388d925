pub mod Standing
pub mod Nearest
pub mod Single
