pub mod Depth
pub mod Apart
