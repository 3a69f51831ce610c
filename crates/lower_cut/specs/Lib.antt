pub mod Figure2
pub mod Workers
pub mod Calls
pub mod Inner
