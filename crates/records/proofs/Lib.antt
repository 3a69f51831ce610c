pub mod Marked
pub mod EventKinds
