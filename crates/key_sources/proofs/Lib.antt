pub mod Values
pub mod Saying
pub mod Loops
pub mod Whole
