pub mod Kinds
pub mod Gates
pub mod View
