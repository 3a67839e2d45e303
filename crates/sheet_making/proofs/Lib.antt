mod Levels
mod Turns
mod TopLevel
mod Given
