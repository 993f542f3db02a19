pub mod Answered
pub mod Lawful
pub mod Subjects
