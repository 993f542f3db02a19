mod BusNames
mod Capturing
mod Emulating
mod HopLaws
mod LinesPlayed
mod Starting
mod TurnLaws
