pub mod Documents
pub mod Families
pub mod Subtrees
pub mod Lasting
mod Levels
