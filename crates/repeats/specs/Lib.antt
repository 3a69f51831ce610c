pub mod Repeats
pub mod Inner
