pub mod Reading
pub mod Buffers
pub mod Answers
pub mod Extracts
pub mod Derivations
pub mod Numbers
pub mod Cases
