pub mod Grown
pub mod Shaped
