-- What the proofs of several functions use.
pub mod Verdicts
pub mod Heads
