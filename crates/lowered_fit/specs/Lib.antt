pub mod Fitted
pub mod States
pub mod Laws
pub mod ExpressionLaws
