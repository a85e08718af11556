pub mod Calls
mod Examples
pub mod Executing
pub mod Hops
pub mod Listing
pub mod Machines
pub mod Openings
pub mod Peaks
pub mod Simulated
pub mod Words
