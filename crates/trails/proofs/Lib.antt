pub mod Fronts
pub mod Nodes
pub mod Noting
pub mod Told
pub mod Words
