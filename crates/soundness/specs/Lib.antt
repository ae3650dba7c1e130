-- What the promises of this crate cite.
pub mod Choosing
pub mod Keeping
pub mod Testing
