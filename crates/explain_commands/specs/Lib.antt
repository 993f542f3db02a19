pub mod Explaining
pub mod ExplainingEvents
pub mod Fixing
pub mod MoveRows
pub mod ExplainingMoves
