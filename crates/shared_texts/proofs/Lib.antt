pub mod Known
mod Lookups
mod Numbering
