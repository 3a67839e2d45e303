mod Trees
mod Loops
mod Spacing
mod Numbers
