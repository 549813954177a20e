pub mod RegisterSets
pub mod RuleTable
pub mod ListTests
pub mod ShippedDescription
pub mod Cases
pub mod Coverage
