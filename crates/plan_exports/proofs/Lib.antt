pub mod Answering
pub mod EntryTables
pub mod Said
pub mod Devicing
pub mod Ranges
pub mod Scripts
pub mod Pieces
pub mod Plain
