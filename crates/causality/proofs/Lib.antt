pub mod Order
pub mod Components
pub mod CutTest
pub mod Row
pub mod Peers
