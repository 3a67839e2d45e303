-- The places of texts, and the gaps between them.
use Rattle.std.proofs.Common.{◌≡◌, ℕ, ◌+◌, ◌-◌, ◌*◌, ◌<◌, ◌≤◌, ◌^◌, List, ◌++◌, length, replicate, ap, ◌∙◌, arith, append_assoc, length-append}
use Rattle.std.proofs.lemmas.List.{length-replicate}
use Rattle.doc_model.specs.declared.limits.Limits.{Limits}
use Rattle.doc_model.specs.Cells.{text_place, padded, text_words}
use Rattle.node_writer.specs.Filled.{name_texts}

-- the zeros between these texts and the next
abbrev pub gap_of : List ℕ → List ℕ
gap_of texts = replicate (text_place (length texts) - length texts) 0

pub place_behind : (n : ℕ) → n ≤ text_place n
place_behind n = omega arith

pub place_near : (n : ℕ) → text_place n ≤ n + 6
place_near n = omega arith

pub padded-length : (texts : List ℕ) → length (padded texts) ≡ text_place (length texts)
padded-length texts = omega (arith, length-append texts (gap_of texts), length-replicate {A = ℕ} (text_place (length texts) - length texts) 0, place_behind (length texts))

pub placed-length : (texts bytes : List ℕ) → length (padded texts ++ bytes) ≡ text_place (length texts) + length bytes
placed-length texts bytes = length-append (padded texts) bytes ∙ ap (λ n. n + length bytes) (padded-length texts)

pub placed_grows : (texts bytes : List ℕ) → padded texts ++ bytes ≡ texts ++ (gap_of texts ++ bytes)
placed_grows texts bytes = append_assoc texts (gap_of texts) bytes

-- the words that are reserved can be counted
pub words_few : (limits : Limits) → limits.text < 2 ^ 32 → limits.rows < 2 ^ 32 → limits.names ≤ 65536 → 7 * text_words limits < 2 ^ 62
words_few limits t r n = omega arith

-- a text that the limits allow has room, as the gaps before it are fewer than the rows and names
pub text_room : (limits : Limits) (at text slots bytes : ℕ) → at ≤ text + 6 * slots → text + bytes ≤ limits.text → slots + 1 ≤ limits.rows + 2 * limits.names
    → text_place at + bytes ≤ 7 * text_words limits
text_room limits at text slots bytes g t s = omega (arith, place_near at)

-- two texts one behind the other
pub texts_room : (limits : Limits) (at text slots first second : ℕ) → at ≤ text + 6 * slots → text + (first + second) ≤ limits.text → slots + 2 ≤ limits.rows + 2 * limits.names
    → text_place (text_place at + first) + second ≤ 7 * text_words limits
texts_room limits at text slots first second g t s = omega (arith, place_near at, place_near (text_place at + first))

-- the texts with those of a name
pub name_texts-length : (texts uri local : List ℕ) → length (name_texts texts uri local) ≡ text_place (text_place (length texts) + length uri) + length local
name_texts-length texts uri local = placed-length (padded texts ++ uri) local ∙ ap (λ n. text_place n + length local) (placed-length texts uri)

pub name_texts_grow : (texts uri local : List ℕ) → name_texts texts uri local ≡ texts ++ (gap_of texts ++ uri ++ (gap_of (padded texts ++ uri) ++ local))
name_texts_grow texts uri local =
    let more = gap_of (padded texts ++ uri) ++ local in
    placed_grows (padded texts ++ uri) local ∙ ap (λ xs. xs ++ more) (placed_grows texts uri) ∙ append_assoc texts (gap_of texts ++ uri) more
