pub mod Contents
pub mod Flaws
pub mod Legible
