pub mod Forms
pub mod Scan
pub mod Tokens
pub mod Layers
