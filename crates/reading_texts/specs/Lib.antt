pub mod ReadingLines
pub mod TroubleLines
pub mod TextErrors
