pub mod Isa
pub mod Words
