pub mod TakingLaws
pub mod OldParametersLaws
pub mod GoingLaws
