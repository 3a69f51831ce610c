pub mod Compared
pub mod Storing
