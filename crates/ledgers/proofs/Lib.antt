-- Laws that the proofs of the functions cite, and what a caller knows from the reader's result.
pub mod Checks
pub mod Shapes
pub mod Readers
pub mod Accepted
