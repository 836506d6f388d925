mod Sets
mod Heads
mod Tails
mod Seams
mod OneByte
mod Matches
mod Longest
pub mod Rules
