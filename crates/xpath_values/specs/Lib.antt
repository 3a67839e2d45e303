pub mod Comparisons
pub mod Conversions
pub mod Fragments
pub mod Values
