pub mod HeardLemmas
pub mod PairLemmas
pub mod Pieces
pub mod PlaceLemmas
pub mod WholeLemmas
