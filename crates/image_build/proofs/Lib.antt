pub mod EachCell
pub mod EachGroup
pub mod EachLink
pub mod EachMessage
pub mod Grouped
