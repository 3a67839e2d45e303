pub mod Names
pub mod Functions
pub mod Places
pub mod Marks
pub mod Scope
pub mod Binding
pub mod Around
