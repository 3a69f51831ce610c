pub mod Accepted
pub mod Quick
pub mod Stamps
pub mod Tube
pub mod Messages
pub mod Once
