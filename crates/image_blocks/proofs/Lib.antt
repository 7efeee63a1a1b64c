pub mod Lists
pub mod Words
pub mod JoinedBits
pub mod Parts
pub mod Written
