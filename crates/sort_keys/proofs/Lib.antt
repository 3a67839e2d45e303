mod Rows
mod Total
