pub mod Adapters
pub mod Causes
pub mod Hearing
pub mod Memory
pub mod Outside
pub mod Pairs
pub mod Places
