pub mod Lines
pub mod Judging
pub mod Recalled
pub mod Standing
