-- Names that are new after those of a table and of more rows.
use Rattle.std.proofs.Common.{◌≡◌, ℕ, ◌+◌, Bool, true, false, ◌&&◌, ◌||◌, not, cond, List, [], ◌∷◌}
use Rattle.std.proofs.Common.{◌++◌, length, refl, ap, ap₂, sym, ◌∙◌, subst, arith, inl, inr, length-append, append_assoc, append-nil}
use Rattle.std.specs.List.{sum_by}
use Rattle.std.specs.Str.{bytes_eq}
use Rattle.std.proofs.lemmas.Bool.{cases_Bool, false≢true}
use Rattle.std.proofs.lemmas.List.Sums.{sum_by_push}
use Rattle.std.proofs.lemmas.Slice.Eq.{bytes_eq-Decides}
use Rattle.doc_model.specs.declared.row.Row.{Row}
use Rattle.doc_model.specs.Legible.{is_empty}
use Rattle.name_pool.specs.Names.{Name}
use Rattle.node_writer.specs.declared.new_names.NewNames.{NewNames}
use Rattle.node_writer.specs.Taken.{is_same, is_name_of, is_prefix_of, has_name, name_of_row, name_added, names_with}
use Rattle.node_writer.specs.Taken.{names_from, names_of, prefixes_with, prefixes_from, prefixes_of, name_bytes, prefix_bytes, name_count}
use Rattle.node_writer.specs.New.{names_bytes, capped, has_new_name, has_new_prefix, has_type_of, has_prefix_of, AddsNames}
use Rattle.node_writer.proofs.Names.{same_is}
use Rattle.node_writer.proofs.Taken.{names_from-append, prefixes_from-append, names_of-push, prefixes_of-push}

or_false : (b : Bool) → (b || false) ≡ b
or_false true = refl
or_false false = refl

or_assoc : (a b c : Bool) → ((a || b) || c) ≡ (a || (b || c))
or_assoc true b c = refl
or_assoc false b c = refl

-- where the second follows from the first, it adds nothing
or_follows : (a b : Bool) → (b ≡ true → a ≡ true) → a ≡ (a || b)
or_follows true b h = refl
or_follows false true h = h refl
or_follows false false h = refl

-- a name among names with one more
name_pushed : (name other : Name) (names : List Name) → is_name_of name (names ++ other ∷ []) ≡ (is_name_of name names || is_same name other)
name_pushed name other [] = or_false (is_same name other)
name_pushed name other (one ∷ names) = ap (λ b. is_same name one || b) (name_pushed name other names) ∙ sym (or_assoc (is_same name one) (is_name_of name names) (is_same name other))

name_in_added : (name other : Name) (names : List Name) → is_name_of name (name_added names other) ≡ (is_name_of name names || is_same name other)
name_in_added name other names = elim (cases_Bool (is_name_of other names)) [
  | inl e ↦ rw e (or_follows (is_name_of name names) (is_same name other) (λ h. subst (λ n. is_name_of n names ≡ true) (sym (same_is name other h)) e))
  | inr e ↦ rw e (name_pushed name other names)
]

-- a row that has the name of one that has a name has one too
named_alike : (row other : Row) → has_name row.kind ≡ true → is_same (name_of_row row) (name_of_row other) ≡ true → has_name other.kind ≡ true
named_alike row other h s = ap (λ (n : Name). has_name n.kind) (sym (same_is (name_of_row row) (name_of_row other) s)) ∙ h

name_in_with : (row other : Row) (names : List Name) → has_name row.kind ≡ true
    → is_name_of (name_of_row row) (names_with names other) ≡ (is_name_of (name_of_row row) names || is_same (name_of_row row) (name_of_row other))
name_in_with row other names h = elim (cases_Bool (has_name other.kind)) [
  | inl e ↦ rw e (name_in_added (name_of_row row) (name_of_row other) names)
  | inr e ↦ rw e (or_follows (is_name_of (name_of_row row) names) (is_same (name_of_row row) (name_of_row other)) (λ s. absurd (false≢true (sym e ∙ named_alike row other h s))))
]

name_in_from : (row : Row) (names : List Name) (more : List Row) → has_name row.kind ≡ true
    → is_name_of (name_of_row row) (names_from names more) ≡ (is_name_of (name_of_row row) names || has_type_of row more)
name_in_from row names [] h = sym (or_false (is_name_of (name_of_row row) names))
name_in_from row names (other ∷ more) h =
    name_in_from row (names_with names other) more h
    ∙ ap (λ b. b || has_type_of row more) (name_in_with row other names h)
    ∙ or_assoc (is_name_of (name_of_row row) names) (is_same (name_of_row row) (name_of_row other)) (has_type_of row more)

neither : (a b : Bool) → (not a && not b) ≡ not (a || b)
neither true b = refl
neither false b = refl

name_new_after : (before more : List Row) (row : Row) → (has_new_name before row && not (has_type_of row more)) ≡ has_new_name (before ++ more) row
name_new_after before more row = elim (cases_Bool (has_name row.kind)) [
  | inl e ↦ rw e (neither (is_name_of (name_of_row row) (names_of before)) (has_type_of row more) ∙ ap not (sym (name_in_from row (names_of before) more e))
      ∙ ap (λ names. not (is_name_of (name_of_row row) names)) (sym (names_from-append [] before more)))
  | inr e ↦ rw e refl
]

-- likewise a prefix
bytes_same : (a b : List ℕ) → bytes_eq a b ≡ true → a ≡ b
bytes_same a b h = (bytes_eq-Decides a b).0 h

prefix_pushed : (prefix other : List ℕ) (prefixes : List (List ℕ)) → is_prefix_of prefix (prefixes ++ other ∷ []) ≡ (is_prefix_of prefix prefixes || bytes_eq prefix other)
prefix_pushed prefix other [] = or_false (bytes_eq prefix other)
prefix_pushed prefix other (one ∷ prefixes) = ap (λ b. bytes_eq prefix one || b) (prefix_pushed prefix other prefixes)
    ∙ sym (or_assoc (bytes_eq prefix one) (is_prefix_of prefix prefixes) (bytes_eq prefix other))

empty_or_there : (prefix other : List ℕ) (prefixes : List (List ℕ)) → is_empty prefix ≡ false → (is_empty other || is_prefix_of other prefixes) ≡ true → prefix ≡ other
    → is_prefix_of prefix prefixes ≡ true
empty_or_there prefix other prefixes full there same =
    subst (λ (p : List ℕ). is_prefix_of p prefixes ≡ true) (sym same)
    (ap (λ b. b || is_prefix_of other prefixes) (sym (ap is_empty (sym same) ∙ full)) ∙ there)

prefix_in_with : (row other : Row) (prefixes : List (List ℕ)) → is_empty row.prefix ≡ false
    → is_prefix_of row.prefix (prefixes_with prefixes other) ≡ (is_prefix_of row.prefix prefixes || bytes_eq row.prefix other.prefix)
prefix_in_with row other prefixes h = elim (cases_Bool (is_empty other.prefix || is_prefix_of other.prefix prefixes)) [
  | inl e ↦ rw e (or_follows (is_prefix_of row.prefix prefixes) (bytes_eq row.prefix other.prefix) (λ s. empty_or_there row.prefix other.prefix prefixes h e (bytes_same row.prefix other.prefix s)))
  | inr e ↦ rw e (prefix_pushed row.prefix other.prefix prefixes)
]

prefix_in_from : (row : Row) (prefixes : List (List ℕ)) (more : List Row) → is_empty row.prefix ≡ false
    → is_prefix_of row.prefix (prefixes_from prefixes more) ≡ (is_prefix_of row.prefix prefixes || has_prefix_of row more)
prefix_in_from row prefixes [] h = sym (or_false (is_prefix_of row.prefix prefixes))
prefix_in_from row prefixes (other ∷ more) h =
    prefix_in_from row (prefixes_with prefixes other) more h
    ∙ ap (λ b. b || has_prefix_of row more) (prefix_in_with row other prefixes h)
    ∙ or_assoc (is_prefix_of row.prefix prefixes) (bytes_eq row.prefix other.prefix) (has_prefix_of row more)

prefix_new_after : (before more : List Row) (row : Row) → (has_new_prefix before row && not (has_prefix_of row more)) ≡ has_new_prefix (before ++ more) row
prefix_new_after before more row = elim (cases_Bool (is_empty row.prefix)) [
  | inl e ↦ rw e refl
  | inr e ↦ rw e (neither (is_prefix_of row.prefix (prefixes_of before)) (has_prefix_of row more) ∙ ap not (sym (prefix_in_from row (prefixes_of before) more e))
      ∙ ap (λ prefixes. not (is_prefix_of row.prefix prefixes)) (sym (prefixes_from-append [] before more)))
]

-- what one more row adds to a sum over names, and over prefixes
pub name_sum : (w : Name → ℕ) (before : List Row) (row : Row) → sum_by w (names_of (before ++ row ∷ [])) ≡ sum_by w (names_of before) + cond (has_new_name before row) (w (name_of_row row)) 0
name_sum w before row = ap (sum_by w) (names_of-push before row) ∙ elim (cases_Bool (has_name row.kind)) [
  | inl e ↦ elim (cases_Bool (is_name_of (name_of_row row) (names_of before))) [
    | inl f ↦ rw (e, f) (omega arith)
    | inr f ↦ rw (e, f) (sum_by_push w (names_of before) (name_of_row row))
  ]
  | inr e ↦ rw e (omega arith)
]

pub prefix_sum : (w : List ℕ → ℕ) (before : List Row) (row : Row) → sum_by w (prefixes_of (before ++ row ∷ [])) ≡ sum_by w (prefixes_of before) + cond (has_new_prefix before row) (w row.prefix) 0
prefix_sum w before row = ap (sum_by w) (prefixes_of-push before row) ∙ elim (cases_Bool (is_empty row.prefix || is_prefix_of row.prefix (prefixes_of before))) [
  | inl e ↦ rw e (omega arith)
  | inr e ↦ rw e (sum_by_push w (prefixes_of before) row.prefix)
]

pub name_length : (before : List Row) (row : Row) → length (names_of (before ++ row ∷ [])) ≡ length (names_of before) + cond (has_new_name before row) 1 0
name_length before row = ap (λ (names : List Name). length names) (names_of-push before row) ∙ elim (cases_Bool (has_name row.kind)) [
  | inl e ↦ elim (cases_Bool (is_name_of (name_of_row row) (names_of before))) [
    | inl f ↦ rw (e, f) (omega arith)
    | inr f ↦ rw (e, f) (length-append (names_of before) (name_of_row row ∷ []))
  ]
  | inr e ↦ rw e (omega arith)
]

pub prefix_length : (before : List Row) (row : Row) → length (prefixes_of (before ++ row ∷ [])) ≡ length (prefixes_of before) + cond (has_new_prefix before row) 1 0
prefix_length before row = ap (λ (prefixes : List (List ℕ)). length prefixes) (prefixes_of-push before row) ∙ elim (cases_Bool (is_empty row.prefix || is_prefix_of row.prefix (prefixes_of before))) [
  | inl e ↦ rw e (omega arith)
  | inr e ↦ rw e (length-append (prefixes_of before) (row.prefix ∷ []))
]

pub adds_none : (before : List Row) (new : NewNames) → new.count ≡ capped 0 → new.bytes ≡ capped 0 → AddsNames before [] new
adds_none before new c b =
    let same : before ++ [] ≡ before = append-nil before in
    record {
      count_added = 0;
      bytes_added = 0;
      all_counted = omega arith ∙ ap name_count (sym same);
      all_bytes = omega arith ∙ ap names_bytes (sym same);
      count = c;
      bytes = b;
    }

-- what is counted of one more row
pub record CountsRow (old new : NewNames) (row : Row) (name prefix : Bool) : Type 0 where
  pub count : (n : ℕ) → old.count ≡ capped n → new.count ≡ capped (n + cond name 1 0 + cond prefix 1 0)
  pub bytes : (n : ℕ) → old.bytes ≡ capped n → new.bytes ≡ capped (n + cond name (length row.uri + length row.local) 0 + cond prefix (length row.prefix) 0)

more_counted : (all row : List Row) (added a b : ℕ) (before : List Row) → name_count before + added ≡ name_count all
    → length (names_of (all ++ row)) ≡ length (names_of all) + a → length (prefixes_of (all ++ row)) ≡ length (prefixes_of all) + b
    → name_count before + (added + a + b) ≡ name_count (all ++ row)
more_counted all row added a b before h n p = omega (arith, h, n, p)

more_bytes : (all row : List Row) (added a b : ℕ) (before : List Row) → names_bytes before + added ≡ names_bytes all
    → name_bytes (names_of (all ++ row)) ≡ name_bytes (names_of all) + a → prefix_bytes (prefixes_of (all ++ row)) ≡ prefix_bytes (prefixes_of all) + b
    → names_bytes before + (added + a + b) ≡ names_bytes (all ++ row)
more_bytes all row added a b before h n p = omega (arith, h, n, p)

pub adds_more : (before more : List Row) (row : Row) (old new : NewNames) (name prefix : Bool) → AddsNames before more old
    → name ≡ has_new_name (before ++ more) row → prefix ≡ has_new_prefix (before ++ more) row → CountsRow old new row name prefix → AddsNames before (more ++ row ∷ []) new
adds_more before more row old new name prefix adds n p counts =
    let all = before ++ more in
    let a : length (names_of (all ++ row ∷ [])) ≡ length (names_of all) + cond name 1 0 = name_length all row ∙ ap (λ b. length (names_of all) + cond b 1 0) (sym n) in
    let b : length (prefixes_of (all ++ row ∷ [])) ≡ length (prefixes_of all) + cond prefix 1 0 = prefix_length all row ∙ ap (λ b. length (prefixes_of all) + cond b 1 0) (sym p) in
    let c : name_bytes (names_of (all ++ row ∷ [])) ≡ name_bytes (names_of all) + cond name (length row.uri + length row.local) 0 = name_sum (λ (it : Name). length it.uri + length it.local) all row
    ∙ ap (λ b. name_bytes (names_of all) + cond b (length row.uri + length row.local) 0) (sym n) in
    let d : prefix_bytes (prefixes_of (all ++ row ∷ [])) ≡ prefix_bytes (prefixes_of all) + cond prefix (length row.prefix) 0 = prefix_sum (λ (it : List ℕ). length it) all row
    ∙ ap (λ b. prefix_bytes (prefixes_of all) + cond b (length row.prefix) 0) (sym p) in
    record {
      count_added = adds.count_added + cond name 1 0 + cond prefix 1 0;
      bytes_added = adds.bytes_added + cond name (length row.uri + length row.local) 0 + cond prefix (length row.prefix) 0;
      all_counted = more_counted all (row ∷ []) adds.count_added _ _ before adds.all_counted a b ∙ ap name_count (append_assoc before more (row ∷ []));
      all_bytes = more_bytes all (row ∷ []) adds.bytes_added _ _ before adds.all_bytes c d ∙ ap names_bytes (append_assoc before more (row ∷ []));
      count = counts.count adds.count_added adds.count;
      bytes = counts.bytes adds.bytes_added adds.bytes;
    }

both : (a b all : Bool) → (a && b) ≡ all → a ≡ true → b ≡ all
both true b all h e = h
both false b all h e = absurd (false≢true e)

not_first : (a b all : Bool) → (a && b) ≡ all → a ≡ false → a ≡ all
not_first true b all h e = absurd (false≢true (sym e))
not_first false b all h e = h

and_true : (b : Bool) → b ≡ (b && true)
and_true true = refl
and_true false = refl

-- a name is new after more rows exactly where it is new before them, where none of these has it
pub name_apart : (before more : List Row) (row : Row) (new : Bool) → new ≡ has_new_name before row → has_type_of row more ≡ false → new ≡ has_new_name (before ++ more) row
name_apart before more row new n apart =
    n ∙ and_true (has_new_name before row) ∙ ap (λ b. has_new_name before row && not b) (sym apart) ∙ name_new_after before more row

-- a prefix that is new is new after more rows where none of these has it; one that isn't stays so
pub prefix_still_new : (before more : List Row) (row : Row) (new there : Bool) → new ≡ has_new_prefix before row → there ≡ has_prefix_of row more → new ≡ true
    → not there ≡ has_new_prefix (before ++ more) row
prefix_still_new before more row new there n t h = both new (not there) _ (ap₂ (λ a b. a && not b) n t ∙ prefix_new_after before more row) h

pub prefix_not_new : (before more : List Row) (row : Row) (new : Bool) → new ≡ has_new_prefix before row → new ≡ false → new ≡ has_new_prefix (before ++ more) row
prefix_not_new before more row new n h = not_first new (not (has_prefix_of row more)) _ (ap (λ a. a && not (has_prefix_of row more)) n ∙ prefix_new_after before more row) h
