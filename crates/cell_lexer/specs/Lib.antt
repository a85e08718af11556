pub mod Faults
pub mod Forms
pub mod Gaps
pub mod Inner
pub mod Pieces
pub mod Places
pub mod Tokens
