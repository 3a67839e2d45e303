pub mod Holds
pub mod Keys
pub mod Names
pub mod Numbers
pub mod Known
