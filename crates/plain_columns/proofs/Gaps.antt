-- Texts that begin at multiples of seven, with zeros between them.
use Rattle.std.proofs.Common.{◌≡◌, ℕ, ◌+◌, ◌-◌, ◌*◌, ◌≤◌, List, ◌++◌, length, replicate, arith, length-append}
use Rattle.std.proofs.lemmas.List.{length-replicate}
use Rattle.doc_model.specs.Cells.{text_place, padded}

pub place_behind : (n : ℕ) → n ≤ text_place n
place_behind n = omega arith

pub place_near : (n : ℕ) → text_place n ≤ n + 6
place_near n = omega arith

-- a word that is begun is within the words
pub place_within : (n words : ℕ) → n ≤ 7 * words → text_place n ≤ 7 * words
place_within n words h = omega arith

pub padded-length : (texts : List ℕ) → length (padded texts) ≡ text_place (length texts)
padded-length texts =
    let gap : ℕ = text_place (length texts) - length texts in
    omega (arith, length-append texts (replicate gap 0), length-replicate {A = ℕ} gap 0, place_behind (length texts))

pub placed-length : (texts bytes : List ℕ) → length (padded texts ++ bytes) ≡ text_place (length texts) + length bytes
placed-length texts bytes = omega (arith, length-append (padded texts) bytes, padded-length texts)

pub room_left : (n words bytes : ℕ) → n ≤ 7 * words → bytes ≤ 7 * words - text_place n → text_place n + bytes ≤ 7 * words
room_left n words bytes h r = omega (arith, place_within n words h)
