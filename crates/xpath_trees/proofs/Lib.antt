mod Lengths
mod Wholes
mod ByGrammar
mod Climbing
mod Exits
mod PatternSteps
