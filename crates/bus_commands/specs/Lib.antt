pub mod Lines
pub mod PacketLines
pub mod Turns
pub mod Starting
pub mod Playing
pub mod Emulating
pub mod Hops
pub mod Capturing
