-- What the proofs of several functions use, and what other crates cite.
pub mod Packing
pub mod FourWords
pub mod Names
pub mod Behind
pub mod AnyBytes
pub mod Tallies
pub mod Steps
pub mod Lists
pub mod Searches
