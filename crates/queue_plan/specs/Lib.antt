pub mod bodies
pub mod Grouping
pub mod Lacks
pub mod Members
