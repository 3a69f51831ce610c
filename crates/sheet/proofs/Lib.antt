pub mod Columns
pub mod Held
pub mod Sums
pub mod Adding
pub mod Allowed
pub mod Summed
