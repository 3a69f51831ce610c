pub mod Answered
pub mod LogWritten
pub mod StepWords
pub mod Restored
pub mod SameAnswers
pub mod Archived
