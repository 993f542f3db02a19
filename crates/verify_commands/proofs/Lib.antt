pub mod Held
pub mod Named
pub mod Unread
pub mod Fitting
pub mod Judging
pub mod Played
pub mod Ending
