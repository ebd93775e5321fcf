pub mod Places
pub mod Alone
