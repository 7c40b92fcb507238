-- The definitions that the contracts cite.
pub mod Around
pub mod Cells
pub mod Counts
pub mod Playing
pub mod Standings
pub mod Telling
pub mod Trace
