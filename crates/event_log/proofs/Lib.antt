pub mod Readable
pub mod Read
