mod Simulated
mod Expected
mod Scripted
mod UnreadInPlay
mod Playing
