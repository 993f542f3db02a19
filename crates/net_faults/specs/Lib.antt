pub mod Circles
pub mod FirstRows
pub mod Chains
pub mod PlanFaults
