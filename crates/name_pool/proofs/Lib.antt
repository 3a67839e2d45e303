mod Holding
mod Knowing
mod Lookups
mod Names
mod Numbering
