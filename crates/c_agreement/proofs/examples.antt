mod SmallUnits
mod Three
mod Writing
mod SmallCalls
mod Refused
