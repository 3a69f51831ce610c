-- What the contracts of functions on the way cite, here and in the crate above.
pub mod Blocks
pub mod Row
