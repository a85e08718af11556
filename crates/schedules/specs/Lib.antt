pub mod Bytes
pub mod Entries
pub mod Picks
pub mod Recording
