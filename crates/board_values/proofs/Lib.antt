pub mod Owning
pub mod Sharing
pub mod Beyond
