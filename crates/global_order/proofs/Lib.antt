mod Shown
mod Stretches
mod Timed
mod Uniqueness
