-- Laws that the proofs of the functions cite, and what other crates cite.
pub mod Carrying
pub mod Planes
