pub mod Held
pub mod Stopping
pub mod Found
pub mod Words
pub mod Pairs
