pub mod Message
pub mod Lists
pub mod Blocks
pub mod Read
