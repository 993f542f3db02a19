pub mod Pieces
pub mod CauseSubjects
pub mod Explanations
pub mod CertificateSubjects
pub mod SummaryLines
pub mod EditLines
