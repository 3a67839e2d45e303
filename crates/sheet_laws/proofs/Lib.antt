mod Steps
mod Tests
mod Elements
mod Stripping
