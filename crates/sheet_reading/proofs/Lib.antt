mod Each
mod Levels
mod Loops
mod Scoping
