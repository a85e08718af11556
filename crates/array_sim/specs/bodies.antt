-- Words that only proofs need: what holds of the parts of a simulation.
pub mod Wiring
pub mod Inside
