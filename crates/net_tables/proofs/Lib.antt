pub mod PoolsOf
pub mod Elements
pub mod TableLaws
pub mod RowSearches
