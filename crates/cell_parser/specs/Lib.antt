pub mod FirstWrong
pub mod Grammar
pub mod Inner
pub mod Lexeme
pub mod Limits
pub mod Printed
pub mod Refusal
