pub mod Choices
pub mod ElementLines
pub mod Heads
pub mod Names
pub mod Shape
pub mod Stacks
pub mod Walk
pub mod Stops
