pub mod WayLines
pub mod FindingLines
pub mod PairLines
