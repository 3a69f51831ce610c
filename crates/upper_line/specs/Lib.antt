pub mod Upper
pub mod Calls
pub mod Inner
