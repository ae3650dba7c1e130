-- Laws that the proofs of the functions cite, and what the bits are of an accepted ledger.
pub mod Bars
pub mod Few
pub mod Tests
pub mod Rows
pub mod Bits
pub mod Knowing
pub mod Standing
pub mod Accepted
