-- What the contracts of this crate cite besides the model.
pub mod Terms
