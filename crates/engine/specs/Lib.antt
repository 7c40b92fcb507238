-- The definitions that the contracts cite.
pub mod Passing
pub mod Tabulating
