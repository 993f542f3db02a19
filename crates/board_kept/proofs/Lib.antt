pub mod More
pub mod Members
pub mod Named
mod SameFrames
