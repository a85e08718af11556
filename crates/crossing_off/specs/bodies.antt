-- Words of bodies and proofs. No public contract speaks of them.
pub mod Rests
pub mod Waiting
pub mod WaitingSet
pub mod Worklist
