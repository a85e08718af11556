pub mod bodies
pub mod Source
pub mod Told
pub mod Labelled
pub mod FirstRefusal
pub mod Built
pub mod Image
pub mod Needs
