pub mod Growing
pub mod Asking
pub mod Moves
pub mod Keeping
pub mod Topping
