pub mod Status
pub mod Sums
pub mod Raised
pub mod Shifts
pub mod Products
pub mod Laws
