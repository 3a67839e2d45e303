pub mod Asking
pub mod Walks
pub mod Shallow
