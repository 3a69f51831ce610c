pub mod Loaded
pub mod BuiltIn
pub mod Words
