pub mod bodies
pub mod OneMeaning
