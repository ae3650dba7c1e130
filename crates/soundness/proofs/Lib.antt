-- Laws that the proofs of the functions cite, and what the promises are of an accepted ledger.
pub mod Steps
pub mod Testing
pub mod Alone
pub mod Accepted
