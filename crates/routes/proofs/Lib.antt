pub mod Hops
pub mod Going
pub mod OneRoute
pub mod Straight
pub mod DefaultRoute
pub mod Counts
pub mod Outcomes
pub mod Lengths
