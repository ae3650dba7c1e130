-- What the proofs of several functions use.
pub mod Pasting
pub mod WordBytes
pub mod Filling
pub mod Outcomes
