pub mod Accepted
pub mod Longest
pub mod Pieces
