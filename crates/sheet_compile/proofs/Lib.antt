mod Exits
mod Uniqueness
mod GlobalLines
