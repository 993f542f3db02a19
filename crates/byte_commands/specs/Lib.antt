pub mod Show
pub mod Worded
pub mod Decoding
