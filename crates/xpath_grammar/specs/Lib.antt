pub mod Words
pub mod Signs
pub mod Productions
pub mod Grammar
pub mod Trees
pub mod Refusal
pub mod Reading
