mod Named
mod Exchanging
mod FaultListed
mod Required
mod Questions
pub mod Held
mod Kept
