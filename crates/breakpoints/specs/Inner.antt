-- What only the contracts of functions on the way cite.
pub mod Listed
