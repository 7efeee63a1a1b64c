pub mod Laws
pub mod Raised
pub mod Shifting
pub mod Fitting
pub mod Says
pub mod Signs
pub mod Whole
