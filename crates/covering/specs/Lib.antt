pub mod Covering
pub mod Calls
pub mod Withdrawn
