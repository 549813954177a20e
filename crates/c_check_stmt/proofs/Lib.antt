mod Shapes
mod NodeEnds
mod ExpressionLeaves
mod Readiness
mod SpotParts
mod PartEnds
