pub mod Again
pub mod Bits
pub mod Places
pub mod Ranges
pub mod Read
pub mod Marks
