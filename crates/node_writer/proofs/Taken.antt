-- What more rows take.
use Rattle.std.proofs.Common.{◌≡◌, ℕ, ◌+◌, ◌≤◌, cond, ◌||◌, List, [], ◌∷◌, ◌++◌, length, refl, ap, sym, ◌∙◌, arith, append-nil, append_assoc, length-append, inl, inr}
use Rattle.std.proofs.lemmas.Bool.{cases_Bool}
use Rattle.std.proofs.lemmas.List.Sums.{sum_by-append, sum_by-cons}
use Rattle.doc_model.specs.declared.limits.Limits.{Limits}
use Rattle.doc_model.specs.declared.row.Row.{Row}
use Rattle.doc_model.specs.Legible.{is_empty}
use Rattle.name_pool.specs.Names.{Name}
use Rattle.node_writer.specs.Taken.{is_name_of, is_prefix_of, has_name, name_of_row, names_with, names_from, names_of, prefixes_with, prefixes_from}
use Rattle.node_writer.specs.Taken.{prefixes_of, name_bytes, prefix_bytes, value_bytes, HasRoom}

pub names_from-append : (names : List Name) (xs ys : List Row) → names_from names (xs ++ ys) ≡ names_from (names_from names xs) ys
names_from-append names [] ys = refl
names_from-append names (x ∷ xs) ys = names_from-append (names_with names x) xs ys

pub prefixes_from-append : (prefixes : List (List ℕ)) (xs ys : List Row) → prefixes_from prefixes (xs ++ ys) ≡ prefixes_from (prefixes_from prefixes xs) ys
prefixes_from-append prefixes [] ys = refl
prefixes_from-append prefixes (x ∷ xs) ys = prefixes_from-append (prefixes_with prefixes x) xs ys

-- one more row
pub names_of-push : (rows : List Row) (row : Row) → names_of (rows ++ row ∷ []) ≡ names_with (names_of rows) row
names_of-push rows row = names_from-append [] rows (row ∷ [])

pub prefixes_of-push : (rows : List Row) (row : Row) → prefixes_of (rows ++ row ∷ []) ≡ prefixes_with (prefixes_of rows) row
prefixes_of-push rows row = prefixes_from-append [] rows (row ∷ [])

-- names are added at the end
pub names_with_more : (names : List Name) (row : Row) → (more : List Name) × (names_with names row ≡ names ++ more)
names_with_more names row = elim (cases_Bool (has_name row.kind)) [
  | inr e ↦ ([], ap (λ b. cond b (cond (is_name_of (name_of_row row) names) names (names ++ name_of_row row ∷ [])) names) e ∙ sym (append-nil names))
  | inl e ↦ elim (cases_Bool (is_name_of (name_of_row row) names)) [
    | inl f ↦ (
      [],
      ap (λ b. cond b (cond (is_name_of (name_of_row row) names) names (names ++ name_of_row row ∷ [])) names) e
          ∙ ap (λ b. cond b names (names ++ name_of_row row ∷ [])) f ∙ sym (append-nil names),
    )
    | inr f ↦ (
      name_of_row row ∷ [],
      ap (λ b. cond b (cond (is_name_of (name_of_row row) names) names (names ++ name_of_row row ∷ [])) names) e
          ∙ ap (λ b. cond b names (names ++ name_of_row row ∷ [])) f,
    )
  ]
]

pub names_from_more : (names : List Name) (rows : List Row) → (more : List Name) × (names_from names rows ≡ names ++ more)
names_from_more names [] = ([], sym (append-nil names))
names_from_more names (row ∷ rows) =
    let one = names_with_more names row in
    let rest = names_from_more (names_with names row) rows in
    (one.0 ++ rest.0, rest.1 ∙ ap (λ xs. xs ++ rest.0) (one.1) ∙ append_assoc names (one.0) (rest.0))

pub prefixes_with_more : (prefixes : List (List ℕ)) (row : Row) → (more : List (List ℕ)) × (prefixes_with prefixes row ≡ prefixes ++ more)
prefixes_with_more prefixes row = elim (cases_Bool (is_empty row.prefix || is_prefix_of row.prefix prefixes)) [
  | inl e ↦ ([], ap (λ b. cond b prefixes (prefixes ++ row.prefix ∷ [])) e ∙ sym (append-nil prefixes))
  | inr e ↦ (row.prefix ∷ [], ap (λ b. cond b prefixes (prefixes ++ row.prefix ∷ [])) e)
]

pub prefixes_from_more : (prefixes : List (List ℕ)) (rows : List Row) → (more : List (List ℕ)) × (prefixes_from prefixes rows ≡ prefixes ++ more)
prefixes_from_more prefixes [] = ([], sym (append-nil prefixes))
prefixes_from_more prefixes (row ∷ rows) =
    let one = prefixes_with_more prefixes row in
    let rest = prefixes_from_more (prefixes_with prefixes row) rows in
    (one.0 ++ rest.0, rest.1 ∙ ap (λ xs. xs ++ rest.0) (one.1) ∙ append_assoc prefixes (one.0) (rest.0))

-- what a part of the rows takes is no more than what all take
pub record IsLess (few many : List Row) : Type 0 where
  pub rows : length few ≤ length many
  pub names : length (names_of few) ≤ length (names_of many)
  pub prefixes : length (prefixes_of few) ≤ length (prefixes_of many)
  pub values : value_bytes few ≤ value_bytes many
  pub name_text : name_bytes (names_of few) ≤ name_bytes (names_of many)
  pub prefix_text : prefix_bytes (prefixes_of few) ≤ prefix_bytes (prefixes_of many)

pub less_first : (xs ys : List Row) → IsLess xs (xs ++ ys)
less_first xs ys =
    let n = names_from_more (names_of xs) ys in
    let p = prefixes_from_more (prefixes_of xs) ys in
    let ne : names_of (xs ++ ys) ≡ names_of xs ++ n.0 = names_from-append [] xs ys ∙ n.1 in
    let pe : prefixes_of (xs ++ ys) ≡ prefixes_of xs ++ p.0 = prefixes_from-append [] xs ys ∙ p.1 in
    let nb : name_bytes (names_of (xs ++ ys)) ≡ name_bytes (names_of xs) + name_bytes (n.0) =
    ap name_bytes ne ∙ sum_by-append (λ (name : Name). length name.uri + length name.local) (names_of xs) (n.0) in
    let pb : prefix_bytes (prefixes_of (xs ++ ys)) ≡ prefix_bytes (prefixes_of xs) + prefix_bytes (p.0) =
    ap prefix_bytes pe ∙ sum_by-append (λ (prefix : List ℕ). length prefix) (prefixes_of xs) (p.0) in
    let vb : value_bytes (xs ++ ys) ≡ value_bytes xs + value_bytes ys = sum_by-append (λ (row : Row). length row.value) xs ys in
    record {
      rows = omega (arith, length-append xs ys);
      names = omega (arith, ap length ne, length-append (names_of xs) (n.0));
      prefixes = omega (arith, ap length pe, length-append (prefixes_of xs) (p.0));
      values = omega arith;
      name_text = omega arith;
      prefix_text = omega arith;
    }

pub room_first : (limits : Limits) (xs ys : List Row) → HasRoom limits (xs ++ ys) → HasRoom limits xs
room_first limits xs ys room =
    let l = less_first xs ys in
    record { rows = omega (arith, room.rows, l.rows); names = omega (arith, room.names, l.names, l.prefixes); text = omega (arith, room.text, l.values, l.name_text, l.prefix_text) }

pub value_bytes-push : (rows : List Row) (row : Row) → value_bytes (rows ++ row ∷ []) ≡ value_bytes rows + length row.value
value_bytes-push rows row =
    sum_by-append (λ (row : Row). length row.value) rows (row ∷ []) ∙ omega (arith, sum_by-cons (λ (row : Row). length row.value) row [])
