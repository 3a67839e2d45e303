pub mod Items
pub mod Pairs
pub mod Turns
pub mod Words
