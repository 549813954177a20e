mod ValueLimits
mod NodeFaults
mod CaseNumbers
mod ForHeads
mod BodyParts
mod LabelLists
mod DeclarationLists
pub mod lemmas
