pub mod Items
pub mod Opening
pub mod Texts
