pub mod Choosable
pub mod Startable
