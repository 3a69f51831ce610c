-- What only the contracts of functions on the way cite.
pub mod Held
pub mod Counted
