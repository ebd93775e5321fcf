pub mod View
pub mod Phases
pub mod Calls
pub mod Search
pub mod Counted
