pub mod Simulating
pub mod Expecting
pub mod Scripting
pub mod MoveSimulating
