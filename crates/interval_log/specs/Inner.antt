-- What only the contracts of this crate's own functions cite.
pub mod Space
