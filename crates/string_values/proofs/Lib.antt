mod Known
mod Reached
mod Lasting
