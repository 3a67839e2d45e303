mod Keys
mod Equations
mod Found
mod Placed
mod Joins
mod Levels
pub mod Lists
mod Turns
pub mod Firsts
pub mod Folds
