mod Items
mod Found
mod PoolFaults
mod FollowersOf
pub mod SamePlan
mod Later
mod Editing
mod Healing
