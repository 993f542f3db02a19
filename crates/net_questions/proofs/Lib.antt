pub mod WayLaws
pub mod Packets
mod Tables
mod Listing
mod Exists
mod FirstNoted
mod Ascending
mod Within
mod Bounds
mod Numbers
mod Walks
mod FirstRows
mod TopmostOwners
mod Referring
mod Crossing
mod Contained
