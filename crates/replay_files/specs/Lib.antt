pub mod Pins
pub mod Line
