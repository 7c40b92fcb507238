pub mod Behind
pub mod Branches
pub mod Chains
pub mod Parts
pub mod Promised
pub mod Turns
