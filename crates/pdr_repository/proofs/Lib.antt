mod Crcs
pub mod Collecting
mod Headers
pub mod Dues
pub mod Walks
mod CommandLaws
mod Places
pub mod Indexing
mod Blocks
mod OneLentParts
mod Handles
mod Collected
mod Judging
pub mod Taking
mod Wanting
pub mod FivePackets
pub mod Following
mod Telling
pub mod Ascending
mod LawfulLists
pub mod Meeting
pub mod OneAnswers
pub mod Deciding
pub mod Searching
pub mod SomeAnswers
pub mod AnswerBytes
mod AnswersRead
mod CheckBytes
pub mod Takings
pub mod SomeTakings
pub mod OneTakings
