-- The definitions that the contracts cite.
pub mod Chosen
pub mod Loaded
pub mod Totals
