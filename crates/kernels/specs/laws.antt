pub mod Divided
pub mod Parts
pub mod Sets
