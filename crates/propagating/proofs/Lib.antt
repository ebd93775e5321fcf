pub mod Lent
pub mod Considering
pub mod Stepping
pub mod Formula
