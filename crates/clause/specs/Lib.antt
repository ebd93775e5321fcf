pub mod Logic
pub mod Memory
