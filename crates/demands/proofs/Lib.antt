-- The theorems' proofs; a function's own proof only cites them.
pub mod Lent
pub mod Asking
pub mod Refusing
pub mod Figures
pub mod Codes
pub mod Comparing
pub mod Deriving
pub mod Tried
