pub mod HexLaws
pub mod RecordLaws
pub mod BlockLaws
pub mod OptionLaws
pub mod SectionLaws
pub mod LineLaws
pub mod WritingLaws
pub mod ReadingBack
