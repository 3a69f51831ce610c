pub mod Forms
pub mod Kind
pub mod Mark
pub mod Event
pub mod Checkpoint
