pub mod Holding
pub mod Meaning
pub mod Orders
pub mod Regular
pub mod Runs
pub mod States
pub mod Steps
