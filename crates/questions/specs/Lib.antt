-- What the promises of this crate cite.
pub mod Answers
pub mod Searching
pub mod Sieving
