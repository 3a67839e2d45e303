-- Type numbers are equal exactly at rows of one type.
use Rattle.std.proofs.Common.{◌≡◌, ℕ, ◌<◌, List, length, take, get_or, ap, sym, ◌∙◌, arith, subst, length-take, get_or-take}
use Rattle.std.proofs.lemmas.List.{length-map, get_or-map}
use Rattle.doc_model.specs.declared.step.Step.{Step}
use Rattle.doc_model.specs.declared.places.RowPlace.{RowPlace}
use Rattle.doc_model.specs.Cells.{Columns, name_at, slice_of, place_at, row_of, root_place}
use Rattle.doc_model.specs.Legal.{RowFits}
use Rattle.doc_model.specs.Rows.{rows_of, row_at}
use Rattle.doc_model.specs.View.{Moves, TypesHold, IsSameType}
use Rattle.doc_laws.proofs.Growth.{Grows-refl}
use Rattle.doc_laws.proofs.Moving.{moves_none}
use Rattle.plain_columns.specs.declared.entry.Entry.{Entry}
use Rattle.plain_columns.specs.declared.table.Plain.TheInside.{Inside}
use Rattle.plain_columns.specs.Seen.{seen_of, types_of}
use Rattle.plain_columns.specs.Spelled.{Spelled, Placed}
use Rattle.plain_columns.specs.Table.{table_of, PlainHolds}
use Rattle.plain_columns.proofs.Looks.{table_lawful}

same_number : (c : Columns) (p q : RowPlace) → RowFits c p → RowFits c q → p.type_id ≡ q.type_id → IsSameType (row_of c p) (row_of c q)
same_number c p q f g e = record {
  kind = sym f.kind ∙ ap (λ id. (name_at c id).kind) e ∙ g.kind;
  uri = ap (λ id. slice_of c.texts (name_at c id).uri_at (name_at c id).uri_len) e;
  local = ap (λ id. slice_of c.texts (name_at c id).local_at (name_at c id).local_len) e;
}

one_number : (c : Columns) (entries : List Entry) (p q : RowPlace) → Spelled c entries → RowFits c p → RowFits c q → IsSameType (row_of c p) (row_of c q) → p.type_id ≡ q.type_id
one_number c entries p q s f g t = s.distinct p.type_id q.type_id f.type g.type (record { kind = f.kind ∙ t.kind ∙ sym g.kind; uri = t.uri; local = t.local })

module _ (c : Columns) (entries : List Entry) (steps : List Step) (count : ℕ) (spelled : Spelled c entries) (placed : Placed c steps count) where
  pub type_at : (k : ℕ) → k < length (rows_of steps) → get_or (types_of (record { columns = c; steps = steps })) k 0 ≡ (place_at c k).type_id
  type_at k l =
      let n : ℕ = length (rows_of steps) in
      get_or-map (λ (place : RowPlace). place.type_id) (take n c.places) k root_place 0 (omega (arith, length-take n c.places, placed.joined, placed.within))
      ∙ ap (λ (place : RowPlace). place.type_id) (get_or-take n c.places k root_place l)

  fits : (k : ℕ) → k < length (rows_of steps) → RowFits c (place_at c k)
  fits k l = spelled.rows k (omega (arith, placed.joined, placed.within))

  pub types_hold : TypesHold (rows_of steps) (types_of (record { columns = c; steps = steps }))
  types_hold = record {
    count = length-map (take (length (rows_of steps)) c.places) (λ (place : RowPlace). place.type_id) ∙ length-take (length (rows_of steps)) c.places ∙ omega (arith, placed.joined, placed.within);
    same = λ j k l m e.
        let s = same_number c (place_at c j) (place_at c k) (fits j l) (fits k m) (sym (type_at j l) ∙ e ∙ type_at k m) in
        subst (λ r. IsSameType r (row_at (rows_of steps) k)) (sym (placed.rows j l)) (subst (λ r. IsSameType (row_of c (place_at c j)) r) (sym (placed.rows k m)) s);
    one = λ j k l m e.
        let s = subst (λ r. IsSameType r (row_of c (place_at c k))) (placed.rows j l) (subst (λ r. IsSameType (row_at (rows_of steps) j) r) (placed.rows k m) e) in
        type_at j l ∙ one_number c entries (place_at c j) (place_at c k) spelled (fits j l) (fits k m) s ∙ sym (type_at k m);
  }

pub table_moves : (p : Inside) → PlainHolds p → Moves (seen_of (table_of p).cells) (seen_of (table_of p).cells)
table_moves p h = moves_none _ (record { lawful = table_lawful p h; within = Grows-refl _; types = types_hold _ p.log.items _ p.joined h.spelled h.placed })
