-- Filling leaves what is spelled.
use Rattle.std.proofs.Common.{◌≡◌, ℕ, suc, ◌+◌, ◌<◌, ◌≤◌, List, [], ◌∷◌, ◌++◌, length, Option, take, drop, get_or, map, refl, ap, ap₂, sym, ◌∙◌}
use Rattle.std.proofs.Common.{arith, append-nil, append_assoc, length-append, length-take, length-drop, get_or-take, get_or-drop}
use Rattle.std.proofs.lemmas.List.{get_or_append_left, take-append-le, drop-append-le}
use Rattle.doc_model.specs.declared.row.Row.{Row}
use Rattle.doc_model.specs.declared.step.Step.TheVariants.{Node, Shut as shut_step}
use Rattle.doc_model.specs.declared.step.Verdict.{Verdict}
use Rattle.doc_model.specs.declared.places.RowPlace.{RowPlace}
use Rattle.doc_model.specs.declared.places.NamePlace.{NamePlace}
use Rattle.doc_model.specs.declared.places.PrefixPlace.{PrefixPlace}
use Rattle.doc_model.specs.Cells.{Columns, place_at, row_of, node_at, root_place, slice_of, padded, no_name, no_prefix}
use Rattle.doc_model.specs.Legal.{RowFits}
use Rattle.plain_columns.specs.declared.entry.Entry.{Entry}
use Rattle.plain_columns.specs.declared.entry.Entry.TheVariants.{Join, Shut}
use Rattle.plain_columns.specs.Spelled.{step_of, steps_of, ended_by, LogFits, Spelled}

-- d is c with more filled
pub record IsFuller (c d : Columns) : Type 0 where
  pub texts : (x : List ℕ) × (d.texts ≡ c.texts ++ x)
  pub names : (x : List NamePlace) × (d.names ≡ c.names ++ x)
  pub prefixes : (x : List PrefixPlace) × (d.prefixes ≡ c.prefixes ++ x)
  pub places : (x : List RowPlace) × (d.places ≡ c.places ++ x)

slice_grows : (xs ys : List ℕ) (at len : ℕ) → at + len ≤ length xs → slice_of (xs ++ ys) at len ≡ slice_of xs at len
slice_grows xs ys at len h =
    ap (take len) (drop-append-le at xs ys (omega arith)) ∙ take-append-le len (drop at xs) ys (omega (arith, length-drop at xs))

map_same : (f g : RowPlace → Row) (xs : List RowPlace) → ((k : ℕ) → k < length xs → f (get_or xs k root_place) ≡ g (get_or xs k root_place)) → map f xs ≡ map g xs
map_same f g [] h = refl
map_same f g (x ∷ xs) h = ap₂ (λ a b. a ∷ b) (h 0 (omega arith)) (map_same f g xs (λ k l. h (suc k) (omega arith)))

module _ (c d : Columns) (fuller : IsFuller c d) where
  pub slice_same : (at len : ℕ) → at + len ≤ length c.texts → slice_of d.texts at len ≡ slice_of c.texts at len
  slice_same at len h = ap (λ t. slice_of t at len) (fuller.texts.1) ∙ slice_grows c.texts (fuller.texts.0) at len h

  pub row_of_same : (entries : List Entry) → Spelled c entries → (place : RowPlace) → RowFits c place → row_of d place ≡ row_of c place
  row_of_same entries s place f =
      let n : get_or d.names place.type_id no_name ≡ get_or c.names place.type_id no_name =
      ap (λ xs. get_or xs place.type_id no_name) (fuller.names.1) ∙ get_or_append_left c.names (fuller.names.0) no_name place.type_id f.type in
      let p : get_or d.prefixes place.prefix_id no_prefix ≡ get_or c.prefixes place.prefix_id no_prefix =
      ap (λ xs. get_or xs place.prefix_id no_prefix) (fuller.prefixes.1) ∙ get_or_append_left c.prefixes (fuller.prefixes.0) no_prefix place.prefix_id f.prefix in
      let name : NamePlace = get_or c.names place.type_id no_name in
      let prefix : PrefixPlace = get_or c.prefixes place.prefix_id no_prefix in
      let nf = s.names place.type_id f.type in
      let pf = s.prefixes place.prefix_id f.prefix in
      let a : slice_of d.texts (get_or d.prefixes place.prefix_id no_prefix).at (get_or d.prefixes place.prefix_id no_prefix).len ≡ slice_of c.texts prefix.at prefix.len =
      ap (λ (q : PrefixPlace). slice_of d.texts q.at q.len) p ∙ slice_same prefix.at prefix.len pf in
      let b : slice_of d.texts (get_or d.names place.type_id no_name).uri_at (get_or d.names place.type_id no_name).uri_len ≡ slice_of c.texts name.uri_at name.uri_len =
      ap (λ (q : NamePlace). slice_of d.texts q.uri_at q.uri_len) n ∙ slice_same name.uri_at name.uri_len nf.uri in
      let e : slice_of d.texts (get_or d.names place.type_id no_name).local_at (get_or d.names place.type_id no_name).local_len ≡ slice_of c.texts name.local_at name.local_len =
      ap (λ (q : NamePlace). slice_of d.texts q.local_at q.local_len) n ∙ slice_same name.local_at name.local_len nf.local in
      let v : slice_of d.texts place.text_at place.text_len ≡ slice_of c.texts place.text_at place.text_len = slice_same place.text_at place.text_len f.text in
      cc

  pub place_same : (k : ℕ) → k < length c.places → place_at d k ≡ place_at c k
  place_same k l = ap (λ xs. get_or xs k root_place) (fuller.places.1) ∙ get_or_append_left c.places (fuller.places.0) root_place k l

  pub node_same : (entries : List Entry) → Spelled c entries → (n : ℕ) → n + (place_at c n).attr_count < length c.places → node_at d n ≡ node_at c n
  node_same entries s n l =
      let p : place_at d n ≡ place_at c n = place_same n (omega arith) in
      let m : ℕ = (place_at c n).attr_count in
      let r : row_of d (place_at d n) ≡ row_of c (place_at c n) = ap (row_of d) p ∙ row_of_same entries s (place_at c n) (s.rows n (omega arith)) in
      let cut : take (place_at d n).attr_count (drop (suc n) d.places) ≡ take m (drop (suc n) c.places) =
      ap (λ (q : RowPlace). take q.attr_count (drop (suc n) d.places)) p ∙ ap (λ xs. take m (drop (suc n) xs)) (fuller.places.1)
      ∙ ap (take m) (drop-append-le (suc n) c.places (fuller.places.0) (omega arith)) ∙ take-append-le m (drop (suc n) c.places) (fuller.places.0) (omega (arith, length-drop (suc n) c.places)) in
      let a : map (row_of d) (take m (drop (suc n) c.places)) ≡ map (row_of c) (take m (drop (suc n) c.places)) =
      map_same (row_of d) (row_of c) (take m (drop (suc n) c.places)) (λ k h.
      let lt : length (take m (drop (suc n) c.places)) ≡ m = length-take m (drop (suc n) c.places) ∙ omega (arith, length-drop (suc n) c.places) in
      let g : get_or (take m (drop (suc n) c.places)) k root_place ≡ place_at c (suc n + k) =
      get_or-take m (drop (suc n) c.places) k root_place (omega arith) ∙ get_or-drop (suc n) c.places k root_place in
      row_of_same entries s (get_or (take m (drop (suc n) c.places)) k root_place) (rw g (s.rows (suc n + k) (omega arith)))) in
      ap₂ (λ row rows. Node row rows) r (ap (map (row_of d)) cut ∙ a)

  log_spells : (entries : List Entry) → Spelled c entries → (log : List Entry) → LogFits c log → map (step_of d) log ≡ map (step_of c) log
  log_spells entries s [] f = refl
  log_spells entries s (Join n ∷ log) f = ap₂ (λ x xs. x ∷ xs) (node_same entries s n f.0) (log_spells entries s log f.1)
  log_spells entries s (Shut ∷ log) f = ap (λ xs. shut_step ∷ xs) (log_spells entries s log f.1)

  pub steps_same : (log : List Entry) (v : Option Verdict) → Spelled c log → steps_of d log v ≡ steps_of c log v
  steps_same log v s = ap (ended_by v) (log_spells log s log s.entries)

  pub log_same : (log : List Entry) → LogFits c log → LogFits d log
  log_same [] f = tt
  log_same (Join n ∷ log) f =
      let l : length d.places ≡ length c.places + length (fuller.places.0) = ap length (fuller.places.1) ∙ length-append c.places (fuller.places.0) in
      let p = ap (λ (q : RowPlace). q.attr_count) (place_same n (omega (arith, f.0))) in
      (omega (arith, f.0), log_same log f.1)
  log_same (Shut ∷ log) f = (tt, log_same log f.1)

-- the bytes behind the gap
pub more_placed : (c : Columns) (bytes texts : List ℕ) → texts ≡ padded c.texts ++ bytes → IsFuller c (record c { texts = texts })
more_placed c bytes texts e = record { texts = (_, e ∙ append_assoc c.texts _ bytes); names = ([], sym (append-nil _)); prefixes = ([], sym (append-nil _)); places = ([], sym (append-nil _)) }

pub more_row : (c : Columns) (place : RowPlace) (places : List RowPlace) → places ≡ c.places ++ place ∷ [] → IsFuller c (record c { places = places })
more_row c place places e = record { texts = ([], sym (append-nil _)); names = ([], sym (append-nil _)); prefixes = ([], sym (append-nil _)); places = (place ∷ [], e) }

pub more_name : (c : Columns) (name : NamePlace) (names : List NamePlace) → names ≡ c.names ++ name ∷ [] → IsFuller c (record c { names = names })
more_name c name names e = record { texts = ([], sym (append-nil _)); names = (name ∷ [], e); prefixes = ([], sym (append-nil _)); places = ([], sym (append-nil _)) }

pub more_prefix : (c : Columns) (prefix : PrefixPlace) (prefixes : List PrefixPlace) → prefixes ≡ c.prefixes ++ prefix ∷ [] → IsFuller c (record c { prefixes = prefixes })
more_prefix c prefix prefixes e = record { texts = ([], sym (append-nil _)); names = ([], sym (append-nil _)); prefixes = (prefix ∷ [], e); places = ([], sym (append-nil _)) }
