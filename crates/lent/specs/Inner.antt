-- What the contracts of functions on the way cite, here and in the crates above.
pub mod Overwrite
