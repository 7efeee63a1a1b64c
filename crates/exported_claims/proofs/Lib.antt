pub mod Arrays
pub mod Answers
pub mod Runs
