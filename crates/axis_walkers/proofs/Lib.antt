pub mod Offering
pub mod Walking
pub mod Facts
pub mod Loops
pub mod Given
pub mod Walks
