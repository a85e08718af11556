-- Words of bodies and proofs. No public contract speaks of them.
pub mod Ready
pub mod Inputs
pub mod Runs
pub mod Stops
