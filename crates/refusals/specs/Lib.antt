pub mod Explanations
pub mod Texts
