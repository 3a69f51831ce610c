pub mod IntervalModel
pub mod LeastClosed
pub mod Conversion
pub mod TubeIntervals
