pub mod Answers
pub mod Blocks
pub mod Samples
pub mod Differing
pub mod Pairs
