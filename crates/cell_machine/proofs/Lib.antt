pub mod Rows
pub mod After
pub mod Reached
pub mod Told
pub mod Stepped
