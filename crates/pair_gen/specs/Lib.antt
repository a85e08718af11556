pub mod Pairs
pub mod Generated
