pub mod Ends
pub mod Hearing
pub mod Orders
pub mod Passes
pub mod Promises
