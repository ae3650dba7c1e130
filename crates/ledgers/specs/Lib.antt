-- What the promises cite beside the model's definitions.
pub mod Forms
pub mod Readings
pub mod Places
