pub mod Spans
pub mod Shifts
pub mod Cuts
pub mod Trims
pub mod Calls
pub mod laws
