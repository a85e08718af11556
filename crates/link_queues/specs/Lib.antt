pub mod Fabrics
pub mod Keeping
pub mod Standing
pub mod Tables
pub mod Tracks
