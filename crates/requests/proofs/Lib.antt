-- The theorems' proofs; a function's own proof only cites them.
pub mod Fewest
pub mod Language
pub mod Dating
pub mod Stopping
pub mod Places
pub mod Keeping
pub mod Speaking
pub mod Tried
