-- What the promises of the notation's writer cite.
pub mod Writing
