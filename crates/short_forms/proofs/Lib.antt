-- What the proofs of the functions cite.
pub mod Needed
pub mod Reduced
pub mod Fronts
pub mod Bits
pub mod Sides
pub mod Answering
