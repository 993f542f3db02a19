mod EntryRows
pub mod Readings
mod ReaderLaws
pub mod Replying
