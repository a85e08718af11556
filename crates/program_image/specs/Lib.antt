pub mod Faithful
pub mod ImageOf
