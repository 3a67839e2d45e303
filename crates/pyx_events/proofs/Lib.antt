pub mod Scoping
pub mod Beginning
pub mod Giving
pub mod Least
pub mod Numbered
pub mod Unbound
pub mod Expanded
pub mod Among
