pub mod Cutting
pub mod Finding
pub mod Partners
pub mod Numbered
pub mod Words
