pub mod Mentions
pub mod Graph
