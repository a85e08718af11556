pub mod Bounds
pub mod Emission
pub mod Following
pub mod Shapes
