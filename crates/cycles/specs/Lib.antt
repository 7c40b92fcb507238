-- The definitions that the contracts cite.
pub mod Code
pub mod Plays
pub mod Rows
pub mod Says
pub mod Reading
