pub mod Values
pub mod Selections
pub mod Using
