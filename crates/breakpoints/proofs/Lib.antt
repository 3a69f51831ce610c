pub mod Allowed
pub mod Joined
