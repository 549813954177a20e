pub mod Equations
pub mod AlikeCalls
pub mod SoundStatements
pub mod SoundCalls
