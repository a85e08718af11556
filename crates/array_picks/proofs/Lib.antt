pub mod BuiltIn
pub mod Entries
mod Examples
pub mod Finished
pub mod Places
pub mod Turns
