pub mod Judgement
pub mod Declaring
pub mod Placing
pub mod Attributes
pub mod Elements
