pub mod Following
pub mod Keeping
pub mod Told
pub mod Selecting
pub mod Shallows
