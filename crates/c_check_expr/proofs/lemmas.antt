pub mod StepLimits
pub mod Walking
pub mod WalkLists
pub mod KnownSymbols
