mod PacketsLeftLaws
mod Cuts
pub mod PacketLists
pub mod FirstIndexes
pub mod Joining
pub mod LastStarts
pub mod Openness
pub mod Verdicts
pub mod Slots
mod Clearing
mod Faults
mod Standing
mod Parts
mod KeyNumberLaws
mod AssemblyLaws
pub mod Arrivals
pub mod Collecting
pub mod InOrder
pub mod Sending
pub mod SomeAnswers
pub mod Spellings
pub mod EidRuns
