pub mod Notation
pub mod Days
pub mod Testing
pub mod Quorums
pub mod Live
pub mod Gap
pub mod Cases
pub mod LiveCases
