-- Words of bodies and proofs: what tables stand for, and parts of the lists of faults. No public contract speaks of
-- them.
pub mod Declarations
pub mod Scopes
pub mod Tables
