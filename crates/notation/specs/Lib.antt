-- What the promises of the notation's reader cite.
pub mod Reading
