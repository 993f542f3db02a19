pub mod Rollouts
pub mod Writing
