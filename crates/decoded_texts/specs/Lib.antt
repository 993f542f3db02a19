pub mod Names
pub mod NameTables
pub mod Seen
pub mod Steps
pub mod Decoding
