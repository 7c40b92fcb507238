-- The definitions that the contracts cite.
pub mod Laws
pub mod Lines
pub mod Packed
pub mod Rooms
pub mod Text
