-- Laws that the proofs of this crate's functions cite.
pub mod Rules
pub mod Meeting
pub mod Checking
