pub mod Operating
pub mod Held
pub mod Standing
