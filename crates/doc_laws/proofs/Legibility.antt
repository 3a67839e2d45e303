-- Every row of a lawful list is legible, so its value and its string-value are UTF-8.
use Rattle.std.proofs.Common.{◌≡◌, ℕ, zero, suc, ◌<◌, Bool, true, false, cond, ◌&&◌, List, [], ◌∷◌, ◌++◌, length, filter, refl, arith}
use Rattle.std.proofs.lemmas.Bool.{and_parts, and_from}
use Rattle.std.proofs.lemmas.Str.{IsUtf8-append, IsUtf8-from_is_utf8, is_utf8-from_IsUtf8}
use Rattle.std.specs.List.{flat_map}
use Rattle.std.specs.Str.{is_utf8}
use Rattle.doc_model.specs.declared.row.Row.{Row}
use Rattle.doc_model.specs.declared.step.Step.{Step}
use Rattle.doc_model.specs.declared.step.Step.TheVariants.{Node, Shut, End}
use Rattle.doc_model.specs.declared.strip_rule.StripRule.{StripRule}
use Rattle.doc_model.specs.Document.{Document, start, after, is_parent}
use Rattle.doc_model.specs.Lawful.{LawfulFrom, IsJoined}
use Rattle.doc_model.specs.Legible.{is_legible, is_named_as, all_legible}
use Rattle.doc_model.specs.Relations.{numbers}
use Rattle.doc_model.specs.Rows.{root_row, row_at, rows_given, rows_of}
use Rattle.doc_model.specs.Values.{value_at, value_in, is_text_below}

both_legible : (xs ys : List Row) → all_legible xs ≡ true → all_legible ys ≡ true → all_legible (xs ++ ys) ≡ true
both_legible [] ys h k = k
both_legible (x ∷ xs) ys h k = let p = and_parts (is_legible x) (all_legible xs) h in and_from _ _ p.0 (both_legible xs ys p.1 k)

given_legible : (s : Document) (steps : List Step) → LawfulFrom s steps → all_legible (rows_given steps) ≡ true
given_legible s [] l = refl
given_legible s (Node row attributes ∷ steps) l = both_legible (row ∷ attributes) (rows_given steps) l.1.legible (given_legible (after s (Node row attributes)) steps l.2)
given_legible s (Shut ∷ steps) l = given_legible (after s Shut) steps l.2
given_legible s (End verdict ∷ steps) l = given_legible (after s (End verdict)) steps l.2

legible_at : (rows : List Row) (n : ℕ) → all_legible rows ≡ true → n < length rows → is_legible (row_at rows n) ≡ true
legible_at [] n h l = absurd (omega arith)
legible_at (x ∷ rows) zero h l = (and_parts (is_legible x) (all_legible rows) h).0
legible_at (x ∷ rows) (suc n) h l = legible_at rows n (and_parts (is_legible x) (all_legible rows) h).1 (omega (arith, l))

no_bytes : is_utf8 [] ≡ true
no_bytes = is_utf8-from_IsUtf8 [] ([], (refl, refl))

root_legible : is_legible root_row ≡ true
root_legible = and_from (is_utf8 []) (is_utf8 []) no_bytes no_bytes

pub row_legible : (steps : List Step) (n : ℕ) → LawfulFrom start steps → IsJoined steps n → is_legible (row_at (rows_of steps) n) ≡ true
row_legible steps n l j = legible_at (rows_of steps) n (and_from _ _ root_legible (given_legible start steps l)) j

value_utf8 : (row : Row) → is_legible row ≡ true → is_utf8 row.value ≡ true
value_utf8 row h = (and_parts (is_utf8 row.uri) (is_utf8 row.value) (and_parts (is_named_as row.kind row) (is_utf8 row.uri && is_utf8 row.value) h).1).1

utf8_append : (xs ys : List ℕ) → is_utf8 xs ≡ true → is_utf8 ys ≡ true → is_utf8 (xs ++ ys) ≡ true
utf8_append xs ys h k = is_utf8-from_IsUtf8 (xs ++ ys) (IsUtf8-append xs ys (IsUtf8-from_is_utf8 xs h) (IsUtf8-from_is_utf8 ys k))

-- the row past the last is the root
at_any : (steps : List Step) (k : ℕ) → LawfulFrom start steps → is_utf8 (row_at (rows_of steps) k).value ≡ true
at_any steps k l = go (rows_of steps) k (and_from _ _ root_legible (given_legible start steps l))
  where
    go : (rows : List Row) (k : ℕ) → all_legible rows ≡ true → is_utf8 (row_at rows k).value ≡ true
    go [] k h = no_bytes
    go (x ∷ rows) zero h = value_utf8 x (and_parts (is_legible x) (all_legible rows) h).0
    go (x ∷ rows) (suc k) h = go rows k (and_parts (is_legible x) (all_legible rows) h).1

joined_utf8 : (steps : List Step) (ks : List ℕ) → LawfulFrom start steps → is_utf8 (flat_map (value_at (rows_of steps)) ks) ≡ true
joined_utf8 steps [] l = no_bytes
joined_utf8 steps (k ∷ ks) l = utf8_append (value_at (rows_of steps) k) (flat_map (value_at (rows_of steps)) ks) (at_any steps k l) (joined_utf8 steps ks l)

pub string_utf8 : (rules : List StripRule) (steps : List Step) (n : ℕ) → LawfulFrom start steps → is_utf8 (value_in rules (rows_of steps) n) ≡ true
string_utf8 rules steps n l = go (is_parent (row_at (rows_of steps) n).kind)
  where
    go : (b : Bool) → is_utf8 (cond b (flat_map (value_at (rows_of steps)) (filter (is_text_below rules (rows_of steps) n) (numbers 0 (length (rows_of steps))))) (value_at (rows_of steps) n)) ≡ true
    go true = joined_utf8 steps (filter (is_text_below rules (rows_of steps) n) (numbers 0 (length (rows_of steps)))) l
    go false = at_any steps n l
