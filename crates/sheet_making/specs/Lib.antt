pub mod Scopes
pub mod Attributes
pub mod Contents
pub mod Instructions
pub mod Rules
pub mod Sheets
