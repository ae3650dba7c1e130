-- The theorems' proofs; a function's own proof only cites them.
pub mod Coalitions
pub mod Meanings
pub mod Soundness
pub mod Principals
pub mod Completeness
pub mod Sides
pub mod Exact
pub mod SevenRules
pub mod Subtraction
