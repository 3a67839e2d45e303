pub mod Weight
pub mod Standing
pub mod Holding
pub mod Moving
