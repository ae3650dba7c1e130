-- What the promises cite beside the model's definitions.
pub mod Columns
pub mod Blocks
