pub mod Bits
pub mod Comments
pub mod Counts
pub mod Decimals
pub mod Steps
pub mod Theorems
