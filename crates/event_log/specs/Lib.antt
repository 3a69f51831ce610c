pub mod Limits
pub mod Model
pub mod Layout
pub mod Header
