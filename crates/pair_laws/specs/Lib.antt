pub mod bodies
pub mod Crossings
