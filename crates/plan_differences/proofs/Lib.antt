mod Consequences
mod Indexes
mod Items
mod OtherWays
mod PortFacts
mod Telling
