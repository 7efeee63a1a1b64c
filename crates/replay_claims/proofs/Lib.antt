pub mod Claims
pub mod Files
