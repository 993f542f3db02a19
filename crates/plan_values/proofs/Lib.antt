pub mod Placed
pub mod SameItems
