pub mod Lent
pub mod Inner
