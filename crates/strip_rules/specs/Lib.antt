pub mod Stripped
pub mod Among
pub mod Deciding
