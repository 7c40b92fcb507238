pub mod Along
pub mod Cases
pub mod Fits
pub mod Fronts
pub mod Limits
pub mod Positions
pub mod Unique
pub mod Whole
