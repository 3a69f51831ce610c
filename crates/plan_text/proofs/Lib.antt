pub mod Buffer
pub mod Decimal
pub mod Lines
pub mod Enough
pub mod Whole
pub mod TubeText
