pub mod Interval
pub mod IntervalCut
pub mod Converted
