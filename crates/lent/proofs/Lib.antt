pub mod Lent
pub mod Overwrite
pub mod Left
pub mod FirstOf
