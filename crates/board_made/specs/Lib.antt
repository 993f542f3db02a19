pub mod Numbers
pub mod Renumbering
pub mod Reasons
pub mod Made
pub mod Rowed
