pub mod Apart
mod Halving
mod Fronts
mod PieceSteps
mod PieceChains
mod PieceWholes
pub mod PieceLoops
mod OnePieces
