pub mod Principals
pub mod Meaning
pub mod Algebra
pub mod Rules
pub mod Gap
