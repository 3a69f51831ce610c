pub mod Sheet
pub mod Calls
pub mod Summed
pub mod Inner
