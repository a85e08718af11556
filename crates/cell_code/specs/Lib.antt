pub mod Alone
pub mod Checked
pub mod Images
pub mod Marks
pub mod Rows
pub mod ShapedCells
