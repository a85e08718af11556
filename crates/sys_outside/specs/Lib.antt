pub mod Fault
pub mod Shelf
pub mod Sink
pub mod Files
pub mod Gathered
