pub mod Prefixes
pub mod Values
pub mod Seats
pub mod Keeps
