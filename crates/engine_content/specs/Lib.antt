pub mod Appending
pub mod Climbing
