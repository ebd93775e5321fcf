pub mod Mapped
pub mod Fields
pub mod Loops
pub mod Told
pub mod GateRow
pub mod Sheets
pub mod Laid
