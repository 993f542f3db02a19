pub mod PlaceLaws
pub mod StationLaws
pub mod SeenLaws
pub mod TimesLaws
pub mod HearingLaws
