pub mod Below
pub mod Drawn
pub mod NamesAre
pub mod Lines
pub mod Made
pub mod Examples
