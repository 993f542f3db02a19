pub mod AssignmentLines
pub mod OutcomeLines
