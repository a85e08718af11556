pub mod bodies
pub mod Faults
pub mod Walks
