pub mod Happened
pub mod Cut
pub mod Calls
pub mod Inner
