-- The promises cite the model, and one definition.
pub mod Terms
