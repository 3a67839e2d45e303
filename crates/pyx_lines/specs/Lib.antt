pub mod Escapes
pub mod Lines
pub mod ReadingBack
pub mod Spelling
pub mod Writing
