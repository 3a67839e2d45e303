pub mod Parts
pub mod Contents
pub mod Modes
