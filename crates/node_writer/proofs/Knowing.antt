-- What is known and what was found of rows, as more names are added.
use Rattle.std.proofs.Common.{◌≡◌, ◌≢◌, ◌↔◌, ℕ, zero, suc, ◌+◌, ◌-◌, ◌<◌, Bool, true, false, ◌&&◌, not, cond, List, [], ◌∷◌, ◌++◌, length, take}
use Rattle.std.proofs.Common.{get_or, Option, Some, None, IfNone, refl, ap, sym, ◌∙◌, subst, arith, inl, inr}
use Rattle.std.specs.Prelude.{is_some}
use Rattle.std.specs.List.{slice_get}
use Rattle.std.proofs.lemmas.Bool.{cases_Bool}
use Rattle.std.proofs.lemmas.Option.{slice_get-get_or, same_Some, none-some}
use Rattle.doc_model.specs.declared.limits.Limits.{Limits}
use Rattle.doc_model.specs.declared.row.Row.{Row}
use Rattle.doc_model.specs.Cells.{Columns}
use Rattle.name_pool.specs.Names.{Name, Pool, IsTypeNumber}
use Rattle.name_pool.specs.Numbers.{IsNew, Keeps}
use Rattle.node_writer.specs.declared.filler.Filler.{Filler}
use Rattle.node_writer.specs.Filler.{FillerStands, IsTypeOf, TypeFilled}
use Rattle.node_writer.specs.Known.{IsTypeIn, IsKnown, AreKnown, IsFound, AreFound, AreApart, known_at}
use Rattle.node_writer.specs.New.{has_new_name, has_type_of}
use Rattle.node_writer.specs.Taken.{is_same, is_name_of, has_name, name_of_row, name_added, names_with, names_from, names_of}
use Rattle.node_writer.proofs.Names.{same_is, name_found, name_absent}
use Rattle.node_writer.proofs.Numbering.{old_name}
use Rattle.node_writer.proofs.Adding.{name_apart}

-- a name keeps its number as more are added
keeps_push : (names : List Name) (name x : Name) (k : ℕ) → slice_get names k ≡ Some x → slice_get (names ++ name ∷ []) k ≡ Some x
keeps_push [] name x k h = absurd (none-some x h)
keeps_push (first ∷ names) name x zero h = h
keeps_push (first ∷ names) name x (suc k) h = keeps_push names name x k h

kept_added : (names : List Name) (name x : Name) (k : ℕ) → slice_get names k ≡ Some x → slice_get (name_added names name) k ≡ Some x
kept_added names name x k h = elim (cases_Bool (is_name_of name names)) [
  | inl e ↦ ap (λ b. slice_get (cond b names (names ++ name ∷ [])) k) e ∙ h
  | inr e ↦ ap (λ b. slice_get (cond b names (names ++ name ∷ [])) k) e ∙ keeps_push names name x k h
]

kept_with : (names : List Name) (row : Row) (x : Name) (k : ℕ) → slice_get names k ≡ Some x → slice_get (names_with names row) k ≡ Some x
kept_with names row x k h = elim (cases_Bool (has_name row.kind)) [
  | inl e ↦ ap (λ b. slice_get (cond b (name_added names (name_of_row row)) names) k) e ∙ kept_added names (name_of_row row) x k h
  | inr e ↦ ap (λ b. slice_get (cond b (name_added names (name_of_row row)) names) k) e ∙ h
]

pub names_kept : (names : List Name) (rows : List Row) → Keeps names (names_from names rows)
names_kept names [] x k h = h
names_kept names (row ∷ rows) x k h = names_kept (names_with names row) rows x k (kept_with names row x k h)

pub known_still : (names : List Name) (rows : List Row) (row : Row) (known : Option ℕ) → IsKnown names row known → IsKnown (names_from names rows) row known
known_still names rows row None h = h
known_still names rows row (Some n) h = (h.0, h.1, names_kept names rows (name_of_row row) (n - 3) h.2)

-- a row whose type number is known fills nothing
pub known_type : (filler : Filler) (limits : Limits) (c : Columns) → FillerStands filler limits c → (row : Row) (n : ℕ) → IsTypeIn filler.pool.names (name_of_row row) n
    → TypeFilled filler filler limits c row × IsTypeOf c n (name_of_row row)
known_type filler limits c stands row n h =
    let old = old_name filler limits c stands (name_of_row row) n (h.1, h.2) in (
      record {
        stands = stands;
        rows = refl;
        names = sym (ap (λ b. cond b (name_added filler.pool.names (name_of_row row)) filler.pool.names) h.0 ∙ old.2);
        prefixes = refl;
        text = refl;
      },
      old.1,
    )

-- what is known of the attribute at a place is still so where the names of those before it were added
pub known_item : (old now : List Name) (rows : List Row) (known : List (Option ℕ)) (at : ℕ) (row : Row) → at < length rows → row ≡ get_or rows at row → now ≡ names_from old (take at rows)
    → AreKnown 1 old rows known → (one : Option ℕ) → one ≡ known_at known (at + 1) → IsKnown now row one
known_item old now rows known at row within is names all one e =
    let here : slice_get rows at ≡ Some row = slice_get-get_or rows at row within ∙ ap (λ (r : Row). Some r) (sym is) in
    let place : 1 + at ≡ at + 1 = omega arith in
    subst (λ (k : Option ℕ). IsKnown now row k) (sym (e ∙ ap (known_at known) (sym place)))
    (subst (λ (all : List Name). IsKnown all row (known_at known (1 + at))) (sym names) (known_still old (take at rows) row (known_at known (1 + at)) (all at row here)))

-- what is known of a row and its attributes, apart
pub known_first : (names : List Name) (row : Row) (rows : List Row) (known : List (Option ℕ)) → AreKnown 0 names (row ∷ rows) known → IsKnown names row (known_at known 0)
known_first names row rows known all = all 0 row refl

pub known_rest_still : (names now : List Name) (row : Row) (rows : List Row) (known : List (Option ℕ)) → now ≡ names_from names (row ∷ []) → AreKnown 0 names (row ∷ rows) known
    → AreKnown 1 now rows known
known_rest_still names now row rows known e all k one h =
    let place : 0 + suc k ≡ 1 + k = omega arith in
    subst (λ (them : List Name). IsKnown them one (known_at known (1 + k))) (sym e)
    (known_still names (row ∷ []) one (known_at known (1 + k)) (subst (λ n. IsKnown names one (known_at known n)) place (all (suc k) one h)))

-- what was found is known
pub found_at : (names : List Name) (rows : List Row) (found : List (Option ℕ)) (k : ℕ) (row : Row) → AreFound names rows found → slice_get rows k ≡ Some row → IsFound names row (known_at found k)
found_at names [] found k row are h = absurd (none-some row h)
found_at names (x ∷ rows) [] k row are h = absurd are
found_at names (x ∷ rows) (one ∷ found) zero row are h = subst (λ (r : Row). IsFound names r one) (same_Some x row h) are.0
found_at names (x ∷ rows) (one ∷ found) (suc k) row are h = found_at names rows found k row are.1 h

found_known : (names : List Name) (row : Row) (found : Option ℕ) → IsFound names row found → IsKnown names row found
found_known names row None h = tt
found_known names row (Some n) h = h

pub all_known : (names : List Name) (rows : List Row) (found : List (Option ℕ)) → AreFound names rows found → AreKnown 0 names rows found
all_known names rows found are k row h =
    let place : k ≡ 0 + k = omega arith in
    subst (λ n. IsKnown names row (known_at found n)) place (found_known names row (known_at found k) (found_at names rows found k row are h))

-- where nothing is known, nothing has to be so
pub nothing_known : (start : ℕ) (names : List Name) (rows : List Row) → AreKnown start names rows []
nothing_known start names rows k row h = tt

pub found_more : (names : List Name) (rows : List Row) (found : List (Option ℕ)) (row : Row) (one : Option ℕ) → IsFound names row one → AreFound names rows found
    → AreFound names (rows ++ row ∷ []) (found ++ one ∷ [])
found_more names [] [] row one here are = (here, tt)
found_more names [] (other ∷ found) row one here are = absurd are
found_more names (first ∷ rows) [] row one here are = absurd are
found_more names (first ∷ rows) (other ∷ found) row one here are = (are.0, found_more names rows found row one here are.1)

-- what a look-up gives of a row is what is found of it
pub looked_up : (pool : Pool) (row : Row) (name : Name) (found : Option ℕ) → name ≡ name_of_row row → has_name row.kind ≡ true
    → ((n : ℕ) → (found ≡ Some n) ↔ IsTypeNumber pool n name) → IfNone found (IsNew pool.names name)
    → IsFound pool.names row found
looked_up pool row name None same named number new = λ h. subst (λ (it : Name). is_name_of it pool.names ≡ false) same (name_absent pool.names name new)
looked_up pool row name (Some n) same named number new =
    let is = (number n).0 refl in (named, is.0, is.1 ∙ ap (λ (it : Name). Some it) same)

turned : (a b : Bool) → a ≡ not b → b ≡ not a
turned a true e = ap not (sym e)
turned a false e = ap not (sym e)

unfound : (names : List Name) (row : Row) (found : Option ℕ) → IsFound names row found → has_name row.kind ≡ true
    → not (is_some found) ≡ (has_name row.kind && not (is_name_of (name_of_row row) names))
unfound names row None h named = rw (named, h named) refl
unfound names row (Some n) h named = rw (named, name_found names (name_of_row row) (n - 3) h.2) refl

-- a row's name is new where nothing was found of it
pub named_new : (names : List Name) (row : Row) (found : Option ℕ) (none : Bool) → is_some found ≡ not none → IsFound names row found → has_name row.kind ≡ true
    → none ≡ (has_name row.kind && not (is_name_of (name_of_row row) names))
named_new names row found none is h named = turned (is_some found) none is ∙ unfound names row found h named

-- rows of other names
none_of : (x : Row) (rows : List Row) → ((j : ℕ) (other : Row) → slice_get rows j ≡ Some other → name_of_row other ≢ name_of_row x) → has_type_of x rows ≡ false
none_of x [] h = refl
none_of x (y ∷ rows) h =
    let first : is_same (name_of_row x) (name_of_row y) ≡ false = elim (cases_Bool (is_same (name_of_row x) (name_of_row y))) [
      | inl e ↦ absurd (h 0 y refl (sym (same_is (name_of_row x) (name_of_row y) e)))
      | inr e ↦ e
    ] in
    rw first (none_of x rows (λ j. h (suc j)))

taken_at : (rows : List Row) (n j : ℕ) (x : Row) → slice_get (take n rows) j ≡ Some x → (j < n) × (slice_get rows j ≡ Some x)
taken_at rows zero j x h = absurd (none-some x h)
taken_at [] (suc n) j x h = absurd (none-some x h)
taken_at (first ∷ rows) (suc n) zero x h = (omega arith, h)
taken_at (first ∷ rows) (suc n) (suc j) x h = let it = taken_at rows n j x h in (omega (arith, it.0), it.1)

pub apart_before : (all : List Row) (k : ℕ) (x : Row) → AreApart all → slice_get all k ≡ Some x → has_type_of x (take k all) ≡ false
apart_before all k x apart here = none_of x (take k all) (λ j other h. let it = taken_at all k j other h in apart j k other x it.1 here it.0)

-- whether a row's name is new after more rows with other names
pub name_judged : (names : List Name) (before more : List Row) (row : Row) (one given : Option ℕ) (new : Bool) → names ≡ names_of before → given ≡ one → IsFound names row one
    → ((all : List Name) → IsFound all row given → new ≡ (has_name row.kind && not (is_name_of (name_of_row row) all))) → has_type_of row more ≡ false → new ≡ has_new_name (before ++ more) row
name_judged names before more row one given new same is found told apart =
    name_apart before more row new
    (told names (subst (λ (it : Option ℕ). IsFound names row it) (sym is) found) ∙ ap (λ (all : List Name). has_name row.kind && not (is_name_of (name_of_row row) all)) same)
    apart
