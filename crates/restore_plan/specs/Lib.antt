pub mod Plan
pub mod Calls
pub mod Floor
pub mod Shown
pub mod AsBefore
