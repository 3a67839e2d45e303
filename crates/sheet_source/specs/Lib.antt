pub mod Scopes
pub mod Nodes
pub mod Building
pub mod Stops
pub mod Answers
pub mod Reading
