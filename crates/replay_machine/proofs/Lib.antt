pub mod Steps
pub mod Lists
pub mod Count
pub mod Progress
pub mod Works
pub mod Call
pub mod Demand
