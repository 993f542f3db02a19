pub mod Lines
pub mod LineParts
pub mod MoveLines
pub mod MoveSteps
pub mod Drawings
pub mod WalkLines
pub mod Shown
pub mod DifferenceLines
