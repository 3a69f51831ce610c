pub mod Recursion
pub mod LowerCut
pub mod VisitCount
pub mod WorkersWord
pub mod Turns
pub mod Copied
pub mod Loop
