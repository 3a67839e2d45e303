pub mod Stops
pub mod Answers
pub mod Modules
pub mod Lines
pub mod Joining
pub mod Compiling
