pub mod Tables
pub mod Simulation
pub mod Outcomes
pub mod Completions
pub mod Held
pub mod Runs
pub mod Exact
pub mod Digits
