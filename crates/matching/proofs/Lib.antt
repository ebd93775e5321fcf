pub mod Masks
pub mod Runs
pub mod Compare
pub mod Trailing
pub mod Left
pub mod Search
