pub mod Open
pub mod Places
pub mod Pushed
pub mod Tidy
