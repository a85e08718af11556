pub mod Driven
pub mod Driving
