-- The definitions that the contracts cite.
pub mod Best
pub mod Each
pub mod Showing
pub mod Slots
pub mod Tables
