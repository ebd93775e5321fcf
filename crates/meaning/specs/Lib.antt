pub mod Nets
pub mod Meaning
pub mod Laws
