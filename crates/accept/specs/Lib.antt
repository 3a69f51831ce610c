pub mod Refusal
pub mod WellFormed
pub mod Tube
