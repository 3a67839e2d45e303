pub mod Fused
pub mod Limits
pub mod Numbers
