-- Laws that the proofs of this crate cite.
pub mod Refuting
pub mod Searching
pub mod Sifting
pub mod Asking
