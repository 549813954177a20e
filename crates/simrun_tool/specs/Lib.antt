pub mod AssemblyFaults
pub mod Simulation
pub mod Runnable
pub mod ProgramRan
