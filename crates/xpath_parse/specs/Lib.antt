pub mod Places
pub mod Refusals
pub mod Templates
pub mod Pieces
