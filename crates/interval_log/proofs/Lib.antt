pub mod Allowed
pub mod Pieces
pub mod Staying
pub mod Kept
