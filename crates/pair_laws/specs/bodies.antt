-- Words that only proofs need.
pub mod Bare
pub mod Laws
pub mod Paired
pub mod Printed
