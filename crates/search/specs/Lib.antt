pub mod Places
pub mod Sought
pub mod laws
