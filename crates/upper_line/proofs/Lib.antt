pub mod UpperLine
pub mod Blocked
pub mod Raising
