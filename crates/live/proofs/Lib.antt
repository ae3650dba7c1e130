-- Laws that the proofs of the functions cite.
pub mod Stepping
pub mod Making
pub mod Asking
