-- Words of bodies and proofs. No public contract speaks of them.
pub mod Fitting
pub mod Running
pub mod Stores
pub mod UnderWay
