pub mod Feeds
pub mod Finding
pub mod Moving
pub mod Reading
