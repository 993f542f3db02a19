pub mod Texts
pub mod Fields
pub mod Keys
pub mod Kept
pub mod Made
pub mod Rowed
