-- The names that rows have are counted alike by the definition of flaws and by the table's.
use Rattle.std.proofs.Common.{◌≡◌, ◌≢◌, ℕ, ◌+◌, ◌==◌, Bool, true, false, ◌&&◌, ◌||◌, cond, List, [], ◌∷◌, length, map, refl, ap, ap₂, sym, ◌∙◌, arith, inl, inr}
use Rattle.std.specs.List.{list_any, sum, sum_by}
use Rattle.std.specs.Str.{bytes_eq}
use Rattle.std.proofs.lemmas.Bool.{cases_Bool, and_from, eq-eqb, false≢true}
use Rattle.std.proofs.lemmas.List.Sums.{sum_by-cons, sum-map}
use Rattle.std.proofs.lemmas.Slice.Eq.{bytes_eq-Decides}
use Rattle.doc_model.specs.declared.row.Kind.{Kind}
use Rattle.doc_model.specs.declared.row.Kind.TheVariants.{Root, Element, Attribute, Text, Instruction, Comment}
use Rattle.doc_model.specs.declared.row.Row.{Row}
use Rattle.doc_model.specs.Legible.{is_empty}
use Rattle.name_pool.specs.Names.{Name}
use Rattle.node_writer.specs.Taken.{is_same, is_name_of, is_prefix_of, has_name, name_of_row, names_from, prefixes_from, name_bytes, prefix_bytes}
use Rattle.node_writer.proofs.Names.{same_is}
use Rattle.doc_model.specs.Numbers.{kind_number}
use Rattle.pyx_events.specs.Counted.{is_nameless, same_type, types, prefixes}
use Rattle.dtm_builder.proofs.Counting.{has, with_new, first_seen, last_seen, same_sum}

-- no row is the root
abbrev pub HaveNoRoot : List Row → Type 0
HaveNoRoot [] = Unit {0}
HaveNoRoot (row ∷ rows) = (row.kind ≢ Root) × HaveNoRoot rows

-- the names of rows, repeats and all
abbrev named : Kind → Name → List Name → List Name
named kind name names = cond (has_name kind) (name ∷ names) names

abbrev keys : List Row → List Name
keys [] = []
keys (row ∷ rows) = named row.kind (name_of_row row) (keys rows)

abbrev texts : List Row → List (List ℕ)
texts [] = []
texts (row ∷ rows) = cond (is_empty row.prefix) (texts rows) (row.prefix ∷ texts rows)

bytes_self : (a : List ℕ) → bytes_eq a a ≡ true
bytes_self a = (bytes_eq-Decides a a).1 refl

bytes_same : (a b : List ℕ) → bytes_eq a b ≡ true → a ≡ b
bytes_same a b h = (bytes_eq-Decides a b).0 h

name_self : (a : Name) → is_same a a ≡ true
name_self a = and_from _ _ (eq-eqb _ _ refl) (and_from _ _ (bytes_self a.uri) (bytes_self a.local))

-- the table's lists are those in order of first sight
name_in : (name : Name) (names : List Name) → is_name_of name names ≡ has is_same name names
name_in name [] = refl
name_in name (other ∷ names) = ap (λ b. is_same name other || b) (name_in name names)

prefix_in : (prefix : List ℕ) (prefixes : List (List ℕ)) → is_prefix_of prefix prefixes ≡ has bytes_eq prefix prefixes
prefix_in prefix [] = refl
prefix_in prefix (other ∷ prefixes) = ap (λ b. bytes_eq prefix other || b) (prefix_in prefix prefixes)

table_names : (seen : List Name) (rows : List Row) → names_from seen rows ≡ first_seen is_same seen (keys rows)
table_names seen [] = refl
table_names seen (row ∷ rows) = elim (cases_Bool (has_name row.kind)) [
  | inl e ↦ rw (e, name_in (name_of_row row) seen) (table_names (with_new is_same seen (name_of_row row)) rows)
  | inr e ↦ rw e (table_names seen rows)
]

table_prefixes : (seen : List (List ℕ)) (rows : List Row) → prefixes_from seen rows ≡ first_seen bytes_eq seen (texts rows)
table_prefixes seen [] = refl
table_prefixes seen (row ∷ rows) = elim (cases_Bool (is_empty row.prefix)) [
  | inl e ↦ rw e (table_prefixes seen rows)
  | inr e ↦ rw (e, prefix_in row.prefix seen) (table_prefixes (with_new bytes_eq seen row.prefix) rows)
]

-- the lists of the flaws' definition keep the last of equal items
turned : (a b : Bool) → (a && b) ≡ (b && a)
turned true true = refl
turned true false = refl
turned false true = refl
turned false false = refl

type_is_name : (a b : Row) → same_type a b ≡ is_same (name_of_row a) (name_of_row b)
type_is_name a b =
    ap₂ (λ x y. x && y)
    refl
    (turned (bytes_eq a.local b.local) (bytes_eq a.uri b.uri))

-- a row with a name has not the type of one without
kinds_differ : (a b : Kind) → has_name a ≡ true → has_name b ≡ false → (kind_number a == kind_number b) ≡ false
kinds_differ Root b h n = absurd (false≢true h)
kinds_differ Text b h n = absurd (false≢true h)
kinds_differ Comment b h n = absurd (false≢true h)
kinds_differ Element Root h n = refl
kinds_differ Element Text h n = refl
kinds_differ Element Comment h n = refl
kinds_differ Attribute Root h n = refl
kinds_differ Attribute Text h n = refl
kinds_differ Attribute Comment h n = refl
kinds_differ Instruction Root h n = refl
kinds_differ Instruction Text h n = refl
kinds_differ Instruction Comment h n = refl
kinds_differ Element Element h n = absurd (false≢true (sym n))
kinds_differ Element Attribute h n = absurd (false≢true (sym n))
kinds_differ Element Instruction h n = absurd (false≢true (sym n))
kinds_differ Attribute Element h n = absurd (false≢true (sym n))
kinds_differ Attribute Attribute h n = absurd (false≢true (sym n))
kinds_differ Attribute Instruction h n = absurd (false≢true (sym n))
kinds_differ Instruction Element h n = absurd (false≢true (sym n))
kinds_differ Instruction Attribute h n = absurd (false≢true (sym n))
kinds_differ Instruction Instruction h n = absurd (false≢true (sym n))

type_among : (row : Row) (rows : List Row) → has_name row.kind ≡ true → list_any (same_type row) rows ≡ has is_same (name_of_row row) (keys rows)
type_among row [] h = refl
type_among row (other ∷ rows) h = elim (cases_Bool (has_name other.kind)) [
  | inl e ↦ rw e (ap₂ (λ x y. x || y) (type_is_name row other) (type_among row rows h))
  | inr e ↦
      let none : same_type row other ≡ false = type_is_name row other ∙ ap (λ b. b && (bytes_eq row.uri other.uri && bytes_eq row.local other.local)) (kinds_differ row.kind other.kind h e) in
      rw (e, none) (type_among row rows h)
]

named_kind : (kind : Kind) → kind ≢ Root → is_nameless kind ≡ cond (has_name kind) false true
named_kind Root h = absurd (h refl)
named_kind Element h = refl
named_kind Attribute h = refl
named_kind Text h = refl
named_kind Instruction h = refl
named_kind Comment h = refl

type_names : (rows : List Row) → HaveNoRoot rows → map name_of_row (types rows) ≡ last_seen is_same (keys rows)
type_names [] h = refl
type_names (row ∷ rows) h = elim (cases_Bool (has_name row.kind)) [
  | inl e ↦
      let kind : is_nameless row.kind ≡ false = named_kind row.kind h.0 ∙ ap (λ b. cond b false true) e in
      elim (cases_Bool (list_any (same_type row) rows)) [
        | inl f ↦ rw (e, kind, f, sym (type_among row rows e) ∙ f) (type_names rows h.1)
        | inr f ↦ rw (e, kind, f, sym (type_among row rows e) ∙ f) (ap (λ names. name_of_row row ∷ names) (type_names rows h.1))
      ]
  | inr e ↦
      let kind : is_nameless row.kind ≡ true = named_kind row.kind h.0 ∙ ap (λ b. cond b false true) e in
      rw (e, kind) (type_names rows h.1)
]

empty_length : (bytes : List ℕ) → (length bytes == 0) ≡ is_empty bytes
empty_length [] = refl
empty_length (b ∷ bytes) = grind arith

empty_is : (bytes : List ℕ) → is_empty bytes ≡ true → bytes ≡ []
empty_is [] h = refl
empty_is (b ∷ bytes) h = absurd (false≢true h)

not_empty : (prefix other : List ℕ) → is_empty prefix ≡ false → is_empty other ≡ true → bytes_eq prefix other ≡ false
not_empty prefix other h e = elim (cases_Bool (bytes_eq prefix other)) [
  | inl f ↦ absurd (false≢true (sym h ∙ ap is_empty (bytes_same prefix other f) ∙ e))
  | inr f ↦ f
]

prefix_among : (prefix : List ℕ) (rows : List Row) → is_empty prefix ≡ false → list_any (λ (other : Row). bytes_eq prefix other.prefix) rows ≡ has bytes_eq prefix (texts rows)
prefix_among prefix [] h = refl
prefix_among prefix (other ∷ rows) h = elim (cases_Bool (is_empty other.prefix)) [
  | inl e ↦ rw (e, not_empty prefix other.prefix h e) (prefix_among prefix rows h)
  | inr e ↦ rw e (ap (λ b. bytes_eq prefix other.prefix || b) (prefix_among prefix rows h))
]

prefix_texts : (rows : List Row) → prefixes rows ≡ last_seen bytes_eq (texts rows)
prefix_texts [] = refl
prefix_texts (row ∷ rows) = elim (cases_Bool (is_empty row.prefix)) [
  | inl e ↦ rw (empty_length row.prefix, e) (prefix_texts rows)
  | inr e ↦ elim (cases_Bool (list_any (λ (other : Row). bytes_eq row.prefix other.prefix) rows)) [
    | inl f ↦ rw (empty_length row.prefix, e, f, sym (prefix_among row.prefix rows e) ∙ f) (prefix_texts rows)
    | inr f ↦ rw (empty_length row.prefix, e, f, sym (prefix_among row.prefix rows e) ∙ f) (ap (λ all. row.prefix ∷ all) (prefix_texts rows))
  ]
]

-- sums over what is counted
names_sum : (w : Name → ℕ) (rows : List Row) → HaveNoRoot rows → sum_by w (names_from [] rows) ≡ sum_by w (map name_of_row (types rows))
names_sum w rows h =
    ap (sum_by w) (table_names [] rows)
    ∙ same_sum is_same same_is name_self w (keys rows)
    ∙ ap (sum_by w) (sym (type_names rows h))

prefixes_sum : (w : List ℕ → ℕ) (rows : List Row) → sum_by w (prefixes_from [] rows) ≡ sum_by w (prefixes rows)
prefixes_sum w rows =
    ap (sum_by w) (table_prefixes [] rows)
    ∙ same_sum bytes_eq bytes_same bytes_self w (texts rows)
    ∙ ap (sum_by w) (sym (prefix_texts rows))

pub ones : {X : Type 0} (xs : List X) → sum_by (λ (x : X). 1) xs ≡ length xs
ones {X = X} [] = refl
ones {X = X} (x ∷ xs) = let more = sum_by-cons (λ (y : X). 1) x xs in let rest = ones xs in omega (arith, more, rest)

mapped : (w : Name → ℕ) (rows : List Row) → sum_by w (map name_of_row rows) ≡ sum_by (λ (row : Row). w (name_of_row row)) rows
mapped w [] = refl
mapped w (row ∷ rows) =
    sum_by-cons w (name_of_row row) (map name_of_row rows)
    ∙ ap (λ n. w (name_of_row row) + n) (mapped w rows)
    ∙ sym (sum_by-cons (λ (r : Row). w (name_of_row r)) row rows)

-- as many names
pub same_count : (rows : List Row) → HaveNoRoot rows → length (names_from [] rows) + length (prefixes_from [] rows) ≡ length (types rows) + length (prefixes rows)
same_count rows h =
    let one : Name → ℕ = λ name. 1 in
    let each : List ℕ → ℕ = λ prefix. 1 in
    let n : length (names_from [] rows) ≡ length (types rows) =
    sym (ones (names_from [] rows)) ∙ names_sum one rows h ∙ mapped one (types rows) ∙ ones (types rows) in
    let p : length (prefixes_from [] rows) ≡ length (prefixes rows) =
    sym (ones (prefixes_from [] rows)) ∙ prefixes_sum each rows ∙ ones (prefixes rows) in
    ap₂ (λ a b. a + b) n p

-- as many bytes
pub same_bytes : (rows : List Row) → HaveNoRoot rows
    → name_bytes (names_from [] rows) + prefix_bytes (prefixes_from [] rows)
    ≡ sum (map (λ (row : Row). length row.uri + length row.local) (types rows)) + sum (map (λ (prefix : List ℕ). length prefix) (prefixes rows))
same_bytes rows h =
    let size : Name → ℕ = λ name. length name.uri + length name.local in
    let long : List ℕ → ℕ = λ prefix. length prefix in
    let n : name_bytes (names_from [] rows) ≡ sum (map (λ (row : Row). length row.uri + length row.local) (types rows)) =
    names_sum size rows h ∙ mapped size (types rows) ∙ sym (sum-map (λ (row : Row). length row.uri + length row.local) (types rows)) in
    let p : prefix_bytes (prefixes_from [] rows) ≡ sum (map long (prefixes rows)) =
    prefixes_sum long rows ∙ sym (sum-map long (prefixes rows)) in
    ap₂ (λ a b. a + b) n p
