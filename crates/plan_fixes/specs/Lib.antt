pub mod Splices
pub mod Fixes
