pub mod Breakpoints
pub mod Inner
