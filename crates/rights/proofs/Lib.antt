-- What the proofs of the functions cite, and those of `trials`.
pub mod Fitting
