mod Parts
mod Numerals
mod Digits
mod Printed
mod Quotients
mod Remainders
