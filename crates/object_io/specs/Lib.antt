pub mod Objects
pub mod Sized
pub mod Words
