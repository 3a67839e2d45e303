pub mod Characters
pub mod Languages
pub mod Searches
pub mod Spaces
pub mod Substrings
pub mod Translating
