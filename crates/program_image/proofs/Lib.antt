pub mod Bound
pub mod CellsAlone
mod Examples
pub mod Finishing
pub mod Labelled
pub mod Layers
pub mod Lengths
pub mod Links
pub mod Listed
pub mod Lists
pub mod Meant
pub mod Messages
pub mod OneEnd
pub mod Ordered
pub mod Regular
pub mod Shaped
pub mod Written
