pub mod Runs
pub mod Order
pub mod Places
pub mod Claims
pub mod Examples
