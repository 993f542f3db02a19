mod Differing
mod Hops
mod ObstacleLines
mod StepLines
mod SameNames
