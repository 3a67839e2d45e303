pub mod Applying
pub mod Order
