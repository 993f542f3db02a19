pub mod Missed
mod Arriving
mod Saying
