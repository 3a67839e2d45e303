pub mod Making
pub mod Others
pub mod Completing
pub mod Joining
