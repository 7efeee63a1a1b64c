pub mod Runs
pub mod Scan
