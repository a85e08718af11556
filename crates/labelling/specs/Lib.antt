pub mod bodies
pub mod Falls
