pub mod Lines
pub mod Numerals
pub mod Records
pub mod Tallies
pub mod Reports
