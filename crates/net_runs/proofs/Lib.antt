mod TerminiThere
mod OneReply
pub mod OneOutcomes
pub mod Units
pub mod Nexts
mod Fates
pub mod ByPlace
mod Kept
pub mod Promised
pub mod Delivered
mod Records
mod Told
pub mod Exact
mod Sends
mod Sent
mod Steps
mod ByteRuns
mod Asked
mod Such
mod Waitings
pub mod AnswerPuts
mod UnderWay
mod Soundness
mod Replies
mod Walking
mod NewRequests
pub mod WalksOver
pub mod FirstAsks
mod SettledOrNot
mod WalkedSteps
mod WalkedGoings
mod Reaching
mod Ordered
mod Travels
mod Fitting
mod AtRest
mod Bringing
mod Replying
mod Exchanging
pub mod Played
pub mod WalkedExact
pub mod Below
pub mod WalkedPromises
mod OneTaken
pub mod OneWalkedOutcomes
mod WalkedUnswitched
mod Unswitched
mod RowsNow
