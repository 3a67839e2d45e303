pub mod Words
pub mod Ordered
pub mod Stays
pub mod Still
