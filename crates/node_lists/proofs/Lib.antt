mod Repeats
mod Ascending
