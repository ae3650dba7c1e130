-- What the promises of the short form cite.
pub mod Listings
