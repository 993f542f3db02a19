pub mod Entries
pub mod ReadFaults
pub mod Parts
pub mod Readers
pub mod Reads
