pub mod Numbering
pub mod CodeAlone
pub mod Collecting
pub mod Placing
pub mod Speaking
pub mod Making
pub mod Printing
pub mod UnitOfMain
