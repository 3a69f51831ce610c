pub mod Words
pub mod Cost
pub mod Inner
