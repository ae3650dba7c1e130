-- What the proofs of several functions use.
pub mod Marks
pub mod Putting
pub mod Parts
pub mod Quorums
pub mod Calls
