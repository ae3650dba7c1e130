-- What the contracts of this crate cite.
pub mod Halves
pub mod Results
