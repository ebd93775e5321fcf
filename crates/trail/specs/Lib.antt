pub mod Values
pub mod Cells
pub mod Trail
pub mod Debt
pub mod Standing
