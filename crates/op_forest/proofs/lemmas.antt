pub mod NodeCounts
pub mod NumberedOperators
pub mod UnitOfMain
