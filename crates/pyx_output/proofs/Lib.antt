pub mod Digits
pub mod FirstFree
pub mod Free
pub mod Heads
pub mod Nested
pub mod Stepping
pub mod Telling
pub mod UsedPrefixes
