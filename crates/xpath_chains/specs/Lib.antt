pub mod Chains
pub mod Mentions
pub mod Copies
