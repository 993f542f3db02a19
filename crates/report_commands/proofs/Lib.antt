mod Hops
mod Reported
