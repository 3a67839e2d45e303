pub mod Words
pub mod Priorities
pub mod Refusals
pub mod Answers
pub mod TreeOf
pub mod Names
pub mod Expressions
pub mod Values
