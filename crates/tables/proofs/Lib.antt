-- What the proofs of several functions use.
pub mod Rows
pub mod Joined
pub mod Holding
pub mod Places
pub mod Reading
