pub mod Telling
pub mod Told
pub mod Places
pub mod Waiting
mod Names
mod Ends
pub mod UnreadInputs
pub mod UnreadTexts
pub mod GivenTexts
pub mod FirstFaults
mod GivenEvents
pub mod Obstacles
