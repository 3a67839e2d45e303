pub mod Taken
pub mod Filled
pub mod Filler
pub mod Stack
pub mod Stands
pub mod New
pub mod Known
