pub mod StepFiles
pub mod Writes
