pub mod Taking
pub mod Taken
pub mod Given
pub mod Holding
