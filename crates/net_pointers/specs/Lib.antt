-- where the first fault of a text stands
pub mod Pointers
pub mod Doubles
pub mod Ascending
pub mod Asks
pub mod OrderOfTests
pub mod Positions
pub mod PartTokens
pub mod Paths
pub mod Offsets
pub mod Scans
pub mod Spots
pub mod TextTroubles
pub mod Nearest
