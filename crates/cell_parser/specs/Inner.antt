-- Words that only proofs and functions of the crate itself need: what a reader has to believe stands outside this
-- folder.
pub mod Declaring
pub mod Machine
pub mod Reading
pub mod Told
