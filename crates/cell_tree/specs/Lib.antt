pub mod Canonical
pub mod Depth
pub mod Expression
pub mod Nodes
pub mod Operator
pub mod Pieces
pub mod Printable
pub mod Statement
