pub mod Lists
pub mod Words
pub mod Written
pub mod Accepted
pub mod Lowest
pub mod Read
pub mod Claims
