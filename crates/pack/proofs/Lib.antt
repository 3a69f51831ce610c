pub mod Records
pub mod Writing
pub mod Header
pub mod ReadBack
pub mod Archive
pub mod Allowed
pub mod Tube
