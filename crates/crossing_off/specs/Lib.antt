pub mod bodies
pub mod Answer
pub mod Greedy
pub mod Walk
