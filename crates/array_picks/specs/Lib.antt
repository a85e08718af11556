pub mod Picked
pub mod Replays
