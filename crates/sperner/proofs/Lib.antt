-- The theorems' proofs; a function's own proof only cites them.
pub mod Counts
pub mod Sizes
pub mod Chains
pub mod Links
pub mod Layers
pub mod Families
pub mod Forms
pub mod Loops
