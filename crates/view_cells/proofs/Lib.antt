mod Pastes
pub mod Decode
