-- Words of bodies and proofs. No public contract speaks of them.
pub mod Answers
pub mod Laws
pub mod Reading
pub mod Needing
