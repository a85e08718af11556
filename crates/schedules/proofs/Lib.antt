pub mod Lines
pub mod Decimals
pub mod ActorTexts
pub mod Reading
pub mod Recordings
mod TextExamples
