pub mod Searches
pub mod Followers
pub mod Rows
pub mod Causes
pub mod Edits
pub mod Keys
pub mod Obstacles
