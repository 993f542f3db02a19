pub mod Folders
pub mod Boards
pub mod Runs
pub mod Parts
pub mod Reports
pub mod Verifying
