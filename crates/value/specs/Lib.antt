pub mod Ops
pub mod Lanes
pub mod Kinds
pub mod Values
pub mod Outcome
pub mod Laws
pub mod Words
pub mod Sharpness
