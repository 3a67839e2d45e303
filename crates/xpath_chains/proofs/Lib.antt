mod Equations
mod Found
mod Joins
