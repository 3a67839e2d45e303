-- The table after it is filled further.
use Rattle.std.proofs.Common.{◌≡◌, ℕ, zero, suc, ◌<◌, ◌≤◌, List, [], ◌∷◌, ◌++◌, length, Option, Some, None, IfSome, get_or, refl, ap, sym, ◌∙◌, subst, arith, length-append, inl, inr}
use Rattle.std.proofs.lemmas.Bool.{cases_lt}
use Rattle.std.proofs.lemmas.List.{get_or_append_left, get_or_at}
use Rattle.doc_model.specs.declared.step.Step.{Step}
use Rattle.doc_model.specs.declared.places.RowPlace.{RowPlace}
use Rattle.doc_model.specs.declared.places.NamePlace.{NamePlace}
use Rattle.doc_model.specs.declared.step.Verdict.{Verdict}
use Rattle.doc_model.specs.Cells.{Columns, name_at, place_at, row_of, no_name, no_prefix}
use Rattle.doc_model.specs.Legal.{IsSameName, IsFresh, NameFits, PrefixFits, RowFits}
use Rattle.doc_laws.specs.Words.{link_of}
use Rattle.plain_columns.specs.declared.entry.Entry.{Entry}
use Rattle.plain_columns.specs.Spelled.{Spelled, IsDistinct, Placed, WordsHold}
use Rattle.plain_columns.proofs.Grown.{IsFuller, slice_same, row_of_same, place_same, log_same}

some_within : (o : Option ℕ) (m n : ℕ) → m ≤ n → IfSome o (λ k. k < m) → IfSome o (λ k. k < n)
some_within None m n l h = tt
some_within (Some k) m n l h = omega arith

module _ (c d : Columns) (fuller : IsFuller c d) where
  texts_grow : length c.texts ≤ length d.texts
  texts_grow = omega (arith, ap length (fuller.texts.1), length-append c.texts (fuller.texts.0))

  names_grow : length c.names ≤ length d.names
  names_grow = omega (arith, ap length (fuller.names.1), length-append c.names (fuller.names.0))

  prefixes_grow : length c.prefixes ≤ length d.prefixes
  prefixes_grow = omega (arith, ap length (fuller.prefixes.1), length-append c.prefixes (fuller.prefixes.0))

  places_grow : length c.places ≤ length d.places
  places_grow = omega (arith, ap length (fuller.places.1), length-append c.places (fuller.places.0))

  name_same : (id : ℕ) → id < length c.names → name_at d id ≡ name_at c id
  name_same id l = ap (λ xs. get_or xs id no_name) (fuller.names.1) ∙ get_or_append_left c.names (fuller.names.0) no_name id l

  row_fits : (place : RowPlace) → RowFits c place → RowFits d place
  row_fits place f = record {
    prev = some_within place.prev (length c.places) (length d.places) places_grow f.prev;
    type = omega (arith, f.type, names_grow);
    prefix =
        omega (arith, f.prefix, prefixes_grow);
    text = omega (arith, f.text, texts_grow);
    parent = omega (arith, f.parent, places_grow);
    kind =
        ap (λ (q : NamePlace). q.kind) (name_same place.type_id f.type) ∙ f.kind;
  }

  same_back : (a b : NamePlace) → NameFits c a → NameFits c b → IsSameName d a b → IsSameName c a b
  same_back a b f g s = record {
    kind = s.kind;
    uri = sym (slice_same c d fuller a.uri_at a.uri_len f.uri) ∙ s.uri ∙ slice_same c d fuller b.uri_at b.uri_len g.uri;
    local = sym (slice_same c d fuller a.local_at a.local_len f.local) ∙ s.local ∙ slice_same c d fuller b.local_at b.local_len g.local;
  }

  -- of two numbers that were there
  distinct_old : (entries : List Entry) → Spelled c entries → (j k : ℕ) → j < length c.names → k < length c.names → IsSameName d (name_at d j) (name_at d k) → j ≡ k
  distinct_old entries s j k l m h =
      let h' : IsSameName d (name_at c j) (name_at c k) = subst (λ q. IsSameName d q (name_at c k)) (name_same j l) (subst (λ q. IsSameName d (name_at d j) q) (name_same k m) h) in
      s.distinct j k l m (same_back (name_at c j) (name_at c k) (s.names j l) (s.names k m) h')

  pub distinct_fuller : (entries : List Entry) → Spelled c entries → d.names ≡ c.names → IsDistinct d
  distinct_fuller entries s e j k l m h = distinct_old entries s j k (omega (arith, ap length e)) (omega (arith, ap length e)) h

  pub distinct_name : (entries : List Entry) (name : NamePlace) → Spelled c entries → NameFits c name → IsFresh c name → d.names ≡ c.names ++ name ∷ [] → IsDistinct d
  distinct_name entries name s f fresh e j k l m h =
      let len : length d.names ≡ suc (length c.names) = ap length e ∙ length-append c.names (name ∷ []) ∙ omega arith in
      let last : name_at d (length c.names) ≡ name = ap (λ xs. get_or xs (length c.names) no_name) e ∙ get_or_at c.names name [] no_name (length c.names) refl in
      elim (cases_lt j (length c.names)) [
        | inl lj ↦ elim (cases_lt k (length c.names)) [
          | inl lk ↦ distinct_old entries s j k lj lk h
          | inr gk ↦
              let ek : k ≡ length c.names = omega arith in
              let at : name_at d k ≡ name = ap (name_at d) ek ∙ last in
              absurd (fresh j lj (same_back (name_at c j) name (s.names j lj) f (subst (λ q. IsSameName d q name) (name_same j lj) (subst (λ q. IsSameName d (name_at d j) q) at h))))
        ]
        | inr gj ↦
            let ej : j ≡ length c.names = omega arith in
            let at : name_at d j ≡ name = ap (name_at d) ej ∙ last in
            elim (cases_lt k (length c.names)) [
              | inl lk ↦
                  let b = same_back name (name_at c k) f (s.names k lk) (subst (λ q. IsSameName d q (name_at c k)) at (subst (λ q. IsSameName d (name_at d j) q) (name_same k lk) h)) in
                  absurd (fresh k lk (record { kind = sym b.kind; uri = sym b.uri; local = sym b.local }))
              | inr gk ↦ omega arith
            ]
      ]

  pub spelled_fuller : (entries : List Entry) → Spelled c entries
      → ((k : ℕ) → length c.names ≤ k → k < length d.names → NameFits d (get_or d.names k no_name))
      → ((k : ℕ) → length c.prefixes ≤ k → k < length d.prefixes → PrefixFits d (get_or d.prefixes k no_prefix))
      → ((k : ℕ) → length c.places ≤ k → k < length d.places → RowFits c (place_at d k))
      → IsDistinct d → Spelled d entries
  spelled_fuller entries s hn hp hr hd = record {
    distinct = hd;
    names = λ k l. elim (cases_lt k (length c.names)) [
      | inl lt ↦
          let e : get_or d.names k no_name ≡ get_or c.names k no_name = ap (λ xs. get_or xs k no_name) (fuller.names.1) ∙ get_or_append_left c.names (fuller.names.0) no_name k lt in
          let f = s.names k lt in
          subst (λ q. NameFits d q) (sym e) (record { uri = omega (arith, f.uri, texts_grow); local = omega (arith, f.local, texts_grow) })
      | inr ge ↦ hn k ge l
    ];
    prefixes = λ k l. elim (cases_lt k (length c.prefixes)) [
      | inl lt ↦
          let e : get_or d.prefixes k no_prefix ≡ get_or c.prefixes k no_prefix =
          ap (λ xs. get_or xs k no_prefix) (fuller.prefixes.1) ∙ get_or_append_left c.prefixes (fuller.prefixes.0) no_prefix k lt in
          let f = s.prefixes k lt in
          subst (λ q. PrefixFits d q) (sym e) (omega (arith, f, texts_grow))
      | inr ge ↦ hp k ge l
    ];
    rows = λ k l. elim (cases_lt k (length c.places)) [
      | inl lt ↦ subst (λ q. RowFits d q) (sym (place_same c d fuller k lt)) (row_fits (place_at c k) (s.rows k lt))
      | inr ge ↦ row_fits (place_at d k) (hr k ge l)
    ];
    entries = log_same c d fuller entries s.entries;
  }

  pub placed_fuller : (entries : List Entry) (steps : List Step) (count : ℕ) → Spelled c entries → Placed c steps count → Placed d steps count
  placed_fuller entries steps count s p = record {
    joined = p.joined;
    within = omega (arith, p.within, places_grow);
    rows = λ k l.
        let lt : k < length c.places = omega (arith, p.joined, p.within) in
        p.rows k l ∙ sym (ap (row_of d) (place_same c d fuller k lt) ∙ row_of_same c d fuller entries s (place_at c k) (s.rows k lt));
    parents = λ k z l.
        let lt : k < length c.places = omega (arith, p.joined, p.within) in
        p.parents k z l ∙ ap (λ (q : RowPlace). Some q.parent) (sym (place_same c d fuller k lt));
    prevs = λ k l.
        let lt : k < length c.places = omega (arith, p.joined, p.within) in
        p.prevs k l ∙ ap (λ (q : RowPlace). q.prev) (sym (place_same c d fuller k lt));
    counts = λ k l.
        let lt : k < length c.places = omega (arith, p.joined, p.within) in
        p.counts k l ∙ ap (λ (q : RowPlace). q.attr_count) (sym (place_same c d fuller k lt));
  }

-- an unset word more
pub unset_more : (xs : List ℕ) (k : ℕ) → get_or (xs ++ 0 ∷ []) k 0 ≡ get_or xs k 0
unset_more [] zero = refl
unset_more [] (suc k) = refl
unset_more (x ∷ xs) zero = refl
unset_more (x ∷ xs) (suc k) = unset_more xs k

pub words_more : (steps : List Step) (first next extent : List ℕ) (v : Option Verdict) → WordsHold steps first next extent v → WordsHold steps (first ++ 0 ∷ []) (next ++ 0 ∷ []) (extent ++ 0 ∷ []) v
words_more steps first next extent v w = record {
  lawful = w.lawful;
  links = record { firsts = λ n. ap link_of (unset_more first n) ∙ w.links.firsts n; nexts = λ n. ap link_of (unset_more next n) ∙ w.links.nexts n };
  extents = record {
    unset = λ n h. unset_more extent n ∙ w.extents.unset n h;
    shut = λ n l p h. unset_more extent n ∙ w.extents.shut n l p h;
    fresh =
        λ n l. unset_more extent n ∙ w.extents.fresh n l;
  };
  ended = w.ended;
}
