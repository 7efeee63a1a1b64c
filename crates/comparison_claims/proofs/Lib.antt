pub mod Fields
pub mod Memories
pub mod Exchanged
pub mod Outcomes
pub mod Claims
