pub mod Feeds
pub mod Reads
pub mod Standing
pub mod Feeding
pub mod Answering
