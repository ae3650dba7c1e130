-- What other crates may cite.
pub mod Results
