pub mod Names
pub mod Table
pub mod Attributes
pub mod Content
pub mod Faults
