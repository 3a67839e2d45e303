pub mod Counting
pub mod Tried
pub mod Lasts
pub mod Chosen
