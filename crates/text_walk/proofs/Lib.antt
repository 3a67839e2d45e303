pub mod Order
pub mod Text
pub mod Deep
pub mod Reach
pub mod Asked
pub mod Measure
pub mod Final
