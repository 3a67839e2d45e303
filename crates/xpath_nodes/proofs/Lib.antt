pub mod ByView
pub mod Holding
pub mod Turning
pub mod Pairing
pub mod Finding
pub mod Meeting
