pub mod Facts
pub mod Differences
pub mod DifferenceLines
pub mod Indexes
pub mod WayDifferences
pub mod WayLines
pub mod Changes
pub mod Diffs
