pub mod Simulations
pub mod bodies
