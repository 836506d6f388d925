pub mod Layout
pub mod Rule
pub mod Holding
pub mod Memories
pub mod Fillings
pub mod laws
