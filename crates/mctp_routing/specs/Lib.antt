pub mod Rows
pub mod Pieces
pub mod PiecesLeft
pub mod RowFaults
pub mod Decisions
