mod TurnLemmas
mod LeaveLemmas
mod PlayLemmas
