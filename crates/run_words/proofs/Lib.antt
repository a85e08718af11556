pub mod Answering
pub mod Ends
mod Examples
pub mod Files
pub mod Lines
pub mod Replaying
pub mod Runs
pub mod Short
