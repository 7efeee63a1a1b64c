pub mod Image
pub mod Blocks
