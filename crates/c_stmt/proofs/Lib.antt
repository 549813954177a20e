mod SeenNodes
mod Declared
mod OldFunctions
mod Dispatch
mod ExternalLists
mod Denoted
