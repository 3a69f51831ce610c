pub mod Little
pub mod Places
