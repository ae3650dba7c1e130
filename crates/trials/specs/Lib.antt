-- What the promises of the exports cite.
pub mod Figures
pub mod Heads
