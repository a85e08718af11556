pub mod Always
pub mod CellsAlone
pub mod Examples
pub mod Links
pub mod Listed
pub mod Mapped
pub mod Meant
pub mod Outputs
mod RegularExample
pub mod Routes
mod SharedExample
pub mod Sure
