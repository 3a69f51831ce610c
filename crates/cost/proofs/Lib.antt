pub mod Costs
pub mod Held
pub mod Counted
pub mod Sums
