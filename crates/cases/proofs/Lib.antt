-- Laws of the test program.
pub mod Inputs
