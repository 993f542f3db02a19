mod Spots
mod SharedBuses
mod OtherSpots
pub mod OtherSearches
mod StretchLaws
mod CoveredLaws
mod SpanLaws
mod PairsMoved
mod FallLaws
mod FollowingLaws
mod RanksByEid
mod HolderLaws
mod RecordSpots
mod Handles
mod Filed
mod NewHandles
pub mod Beyond
pub mod RuleOrder
mod FaultRuns
mod LocatorLaws
mod EntryLaws
mod MoveSearches
pub mod MoveOrder
pub mod Ends
pub mod Pigeons
pub mod Circling
pub mod KnownEnds
pub mod SameMoves
pub mod Lines
pub mod LevelLaws
pub mod IndexLaws
pub mod ChainLaws
mod ChainPlaces
pub mod EidMoves
mod AlikeLaws
mod WayLaws
mod LoopLaws
mod RankRunLaws
mod Filters
mod RankLaws
mod CertificateLaws
mod OneCertificate
mod OneOrder
mod Listed
mod ExactCertificates
pub mod Obstacles
pub mod MoveRankLaws
pub mod SameHolders
pub mod MoveCertificates
mod RowsInForce
