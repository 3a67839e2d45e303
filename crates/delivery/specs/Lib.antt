pub mod Answer
pub mod Delivery
