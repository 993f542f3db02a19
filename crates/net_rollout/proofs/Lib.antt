pub mod Items
pub mod Sending
pub mod Chains
pub mod Made
