mod Sources
mod Lasting
mod Cuts
mod Answers
