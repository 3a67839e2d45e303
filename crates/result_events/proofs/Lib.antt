pub mod Indexing
pub mod Placing
pub mod Standing
pub mod Tidied
