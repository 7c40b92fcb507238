-- The definitions that the contracts cite.
pub mod Stores
pub mod Trails
