mod Cutting
mod Exits
mod Loops
mod Fronts
mod Chained
mod Bare
mod Searches
mod Taken
