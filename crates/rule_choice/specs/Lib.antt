pub mod Sorting
pub mod Choice
