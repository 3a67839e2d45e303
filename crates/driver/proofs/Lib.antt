mod JudgedLemmas
mod StatusLemmas
mod TellLemmas
