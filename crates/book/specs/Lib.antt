pub mod Book
pub mod Examples
