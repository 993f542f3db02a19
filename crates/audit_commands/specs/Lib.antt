pub mod Buses
pub mod Auditing
