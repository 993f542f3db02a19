mod Explained
mod ExplainedEvents
mod Mended
mod Hops
mod ExplainedMoves
mod MovedTexts
