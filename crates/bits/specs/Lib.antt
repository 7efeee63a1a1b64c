pub mod Bits
pub mod Logic
pub mod Laws
