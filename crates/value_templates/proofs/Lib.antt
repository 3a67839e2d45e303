pub mod Asking
mod Parts
mod Stable
