pub mod Requests
pub mod Book
pub mod Runs
pub mod Division
pub mod OnTerms
