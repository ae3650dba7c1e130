-- Definitions of the test program.
pub mod Records
