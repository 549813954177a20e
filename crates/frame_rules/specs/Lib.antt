pub mod Rows
pub mod FrameRules
pub mod OperatorNumbers
pub mod AppliedRules
pub mod RuleLaws
pub mod RuleMeanings
pub mod FrameObeys
