pub mod Chains
pub mod Inside
pub mod Coding
