pub mod CoveringSet
pub mod Withdrawn
pub mod SetNumber
