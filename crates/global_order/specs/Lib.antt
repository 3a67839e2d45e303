pub mod Needs
pub mod Order
pub mod Marks
pub mod Times
