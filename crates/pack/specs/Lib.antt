pub mod Packed
pub mod Calls
pub mod Archive
pub mod Inner
