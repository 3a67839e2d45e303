pub mod Trials
pub mod Places
pub mod Found
