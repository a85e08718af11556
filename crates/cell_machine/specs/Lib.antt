pub mod Machine
pub mod Ready
pub mod Steps
