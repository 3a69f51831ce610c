pub mod Placed
pub mod Settling
pub mod Begun
pub mod Finished
