-- What the promises of calls that can be refused cite.
pub mod Numbers
pub mod Results
