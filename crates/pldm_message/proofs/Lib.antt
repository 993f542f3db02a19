mod FirstFaults
mod Writing
mod Turns
pub mod OneInstanceIds
