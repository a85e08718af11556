-- Words of bodies and proofs. No public contract speaks of them.
pub mod Unrolling
pub mod Walking
