-- What only the contracts of this crate's own functions cite, and what `repeat_fault` requires.
pub mod Again
pub mod Table
