pub mod Digits
pub mod Sums
