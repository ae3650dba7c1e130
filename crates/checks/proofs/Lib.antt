-- Laws that the proofs of the functions cite, and what the promise comes to on a whole block.
pub mod Sums
pub mod Columns
pub mod Blocks
