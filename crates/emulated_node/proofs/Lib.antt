pub mod Answering
pub mod Giving
pub mod Spreading
