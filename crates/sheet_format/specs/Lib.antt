pub mod Rows
pub mod Shapes
pub mod Decoding
pub mod FirstFault
pub mod Laws
pub mod Samples
