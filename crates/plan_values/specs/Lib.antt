-- plans, certificates and events
pub mod NameText
pub mod NodeValues
pub mod Placed
pub mod PlanValues
pub mod CertificateValues
pub mod EventValues
pub mod WellFormed
pub mod ShortText
