-- One row that is filled, and rows one after the other.
use Rattle.std.proofs.Common.{◌≡◌, ℕ, suc, ◌+◌, List, [], ◌∷◌, ◌++◌, length, refl, ap, sym, ◌∙◌, subst, arith, append_assoc, append-nil, length-append}
use Rattle.std.proofs.lemmas.List.Sums.{sum_by-cons, sum_by-append}
use Rattle.doc_model.specs.declared.limits.Limits.{Limits}
use Rattle.doc_model.specs.declared.places.RowPlace.{RowPlace}
use Rattle.doc_model.specs.declared.row.Row.{Row}
use Rattle.doc_model.specs.Cells.{Columns, Cells, name_at, prefix_at, slice_of, text_place, padded, with_text, with_row}
use Rattle.name_pool.specs.Names.{Name}
use Rattle.node_writer.specs.declared.filler.Filler.{Filler}
use Rattle.node_writer.specs.declared.filler.Links.{Links}
use Rattle.node_writer.specs.Filled.{SpellsName, SpellsPrefix, SpellsRow, IsFuller, FillsTexts}
use Rattle.node_writer.specs.Filler.{FillerStands, IsTypeOf, PrefixFilled, IsPrefixOf, TypeFilled, RowsFit, RowsFilled, AllSpell, AreLinked}
use Rattle.node_writer.specs.Taken.{name_of_row, name_bytes, prefix_bytes, value_bytes, names_from, prefixes_from}
use Rattle.node_writer.proofs.Places.{place_near, padded-length, placed-length, placed_grows}
use Rattle.node_writer.proofs.Grown.{fuller_on, names_grow, name_same, spells_name_still, spells_prefix_still, spells_row_still, slice_end}
use Rattle.node_writer.proofs.Names.{names_still, prefixes_still}
use Rattle.node_writer.proofs.Taken.{names_from-append, prefixes_from-append, names_from_more, prefixes_from_more}

row_parts : (row : Row) (prefix uri local value : List ℕ) → prefix ≡ row.prefix → uri ≡ row.uri → local ≡ row.local → value ≡ row.value
    → ◌≡◌ {A = Row} (record { kind = row.kind; prefix = prefix; uri = uri; local = local; value = value; depth = row.depth }) row
row_parts row prefix uri local value p u l v =
    let a : List ℕ → Row = λ x. record { kind = row.kind; prefix = x; uri = uri; local = local; value = value; depth = row.depth } in
    let b : List ℕ → Row = λ x. record { kind = row.kind; prefix = row.prefix; uri = x; local = local; value = value; depth = row.depth } in
    let d : List ℕ → Row = λ x. record { kind = row.kind; prefix = row.prefix; uri = row.uri; local = x; value = value; depth = row.depth } in
    let e : List ℕ → Row = λ x. record { kind = row.kind; prefix = row.prefix; uri = row.uri; local = row.local; value = x; depth = row.depth } in
    ap a p ∙ ap b u ∙ ap d l ∙ ap e v

-- the place of a row whose value is filled next
abbrev pub place_next : Row → Links → (type prefix at : ℕ) → RowPlace
place_next row links type prefix at =
    record {
      kind = row.kind;
      type_id = type;
      prefix_id = prefix;
      parent = links.parent;
      prev = links.prev;
      depth = row.depth;
      attr_count = links.attributes;
      text_at =
          at;
      text_len = length row.value;
    }

module _ (limits : Limits) (row : Row) (links : Links) (f f1 f2 f3 : Filler) (c0 c1 c2 c3 c4 : Cells) (type prefix at : ℕ) where
  pub row_filled : TypeFilled f f1 limits c1.columns row → IsTypeOf c1.columns type (name_of_row row) → FillsTexts c0 c1
      → PrefixFilled f1 f2 limits c2.columns row.prefix → IsPrefixOf c2.columns prefix row.prefix → FillsTexts c1 c2
      → at ≡ text_place f2.at → f3 ≡ record f2 { text = f2.text + length row.value; at = text_place f2.at + length row.value } → c3 ≡ with_text c2 row.value
      → c4 ≡ with_row c3 (place_next row links type prefix at)
      → RowsFilled f (record f3 { rows = f3.rows + 1 }) limits c0.columns c4.columns (row ∷ []) links
  row_filled t tn tf p pn pf ae fe ce re =
      let place : RowPlace = place_next row links type prefix at in
      let d1 : Columns = c1.columns in
      let d2 : Columns = c2.columns in
      let d4 : Columns = record { texts = padded d2.texts ++ row.value; names = d2.names; prefixes = d2.prefixes; places = d2.places ++ place ∷ [] } in
      let de : c4.columns ≡ d4 = ap (λ (x : Cells). x.columns) re ∙ ap (λ (x : Cells). (with_row x place).columns) ce in
      let g : Filler = record { pool = f2.pool; text = f2.text + length row.value; at = text_place f2.at + length row.value; rows = f2.rows + 1; types = f2.types; prefixes = f2.prefixes } in
      let ge : (let r : Filler = record f3 { rows = f3.rows + 1 } in r) ≡ g = ap (λ (x : Filler). let r : Filler = record x { rows = x.rows + 1 } in r) fe in
      let full24 : IsFuller d2 d4 = record { texts = (_, placed_grows d2.texts row.value); names = ([], sym (append-nil _)); prefixes = ([], sym (append-nil _)) } in
      let full14 = fuller_on d1 d2 d4 pf.fuller full24 in
      let full04 = fuller_on c0.columns d1 d4 tf.fuller full14 in
      let len : length d4.texts ≡ text_place (length d2.texts) + length row.value = placed-length d2.texts row.value in
      let here : at ≡ text_place (length d2.texts) = ae ∙ ap text_place p.stands.at in
      let count : length d4.places ≡ length d2.places + 1 = length-append d2.places (place ∷ []) in
      let ps : d2.places ≡ c0.columns.places = pf.places ∙ tf.places in
      let spelled_name : SpellsName d4 (name_at d1 type) (name_of_row row) = spells_name_still d1 d4 full14 (name_at d1 type) (name_of_row row) tn.spells in
      let name : SpellsName d4 (name_at d4 type) (name_of_row row) = subst (λ q. SpellsName d4 q (name_of_row row)) (sym (name_same d1 d4 full14 type tn.within)) spelled_name in
      let spelled_prefix : SpellsPrefix d4 (prefix_at d2 prefix) row.prefix = spells_prefix_still d2 d4 full24 (prefix_at d2 prefix) row.prefix pn.spells in
      let value : slice_of d4.texts at (length row.value) ≡ row.value = slice_end (padded d2.texts) row.value at (length row.value) (here ∙ sym (padded-length d2.texts)) refl in
      let spells : SpellsRow d4 place row = record {
        type = omega (arith, tn.within, names_grow d1 d4 full14);
        prefix = pn.within;
        name_fits = name.fits;
        prefix_fits = spelled_prefix.fits;
        text_fits = omega (arith, here, len);
        spelled = row_parts row _ _ _ _ spelled_prefix.text name.uri name.local value;
      } in
      let nb : name_bytes f2.pool.names ≡ name_bytes f1.pool.names = ap name_bytes p.names in
      let pb : prefix_bytes f1.pool.prefixes ≡ prefix_bytes f.pool.prefixes = ap prefix_bytes t.prefixes in
      let vb : value_bytes (row ∷ []) ≡ length row.value = sum_by-cons (λ (r : Row). length r.value) row [] ∙ omega arith in
      let done : RowsFilled f g limits c0.columns d4 (row ∷ []) links = record {
        stands = record {
          at = ap (λ n. text_place n + length row.value) p.stands.at ∙ sym len;
          gaps = omega (arith, p.stands.gaps, place_near f2.at);
          rows = omega (arith, p.stands.rows, count);
          types = p.stands.types;
          prefix_numbers = p.stands.prefix_numbers;
          names = names_still d2 d4 full24 f2.pool.names p.stands.names refl;
          prefixes = prefixes_still d2 d4 full24 f2.pool.prefixes p.stands.prefixes refl;
          limit = p.stands.limit;
          few = p.stands.few;
          small = p.stands.small;
          rows_small = p.stands.rows_small;
        };
        names = p.names ∙ t.names;
        prefixes = p.prefixes ∙ ap (λ (xs : List (List ℕ)). prefixes_from xs (row ∷ [])) t.prefixes;
        text = omega (arith, t.text, p.text, nb, pb, vb);
        fuller = full04;
        places = place ∷ [];
        placed = ap (λ xs. xs ++ place ∷ []) ps;
        spells = (spells, tt);
        linked = (record { parent = refl; prev = refl; count = refl }, tt);
      } in
      subst (λ (x : Filler). RowsFilled f x limits c0.columns c4.columns (row ∷ []) links) (sym ge) (subst (λ x. RowsFilled f g limits c0.columns x (row ∷ []) links) (sym de) done)

-- the places of some rows and of more
spells_on : (c : Columns) (ps qs : List RowPlace) (xs ys : List Row) → AllSpell c ps xs → AllSpell c qs ys → AllSpell c (ps ++ qs) (xs ++ ys)
spells_on c [] qs [] ys s t = t
spells_on c [] qs (x ∷ xs) ys s t = absurd s
spells_on c (p ∷ ps) qs [] ys s t = absurd s
spells_on c (p ∷ ps) qs (x ∷ xs) ys s t = (s.0, spells_on c ps qs xs ys s.1 t)

spells_still : (c d : Columns) → IsFuller c d → (ps : List RowPlace) (xs : List Row) → AllSpell c ps xs → AllSpell d ps xs
spells_still c d full [] [] s = tt
spells_still c d full [] (x ∷ xs) s = absurd s
spells_still c d full (p ∷ ps) [] s = absurd s
spells_still c d full (p ∷ ps) (x ∷ xs) s = (spells_row_still c d full p x s.0, spells_still c d full ps xs s.1)

linked_on : (links : Links) (ps qs : List RowPlace) → AreLinked links ps → AreLinked links qs → AreLinked links (ps ++ qs)
linked_on links [] qs s t = t
linked_on links (p ∷ ps) qs s t = (s.0, linked_on links ps qs s.1 t)

pub spells_count : (c : Columns) (ps : List RowPlace) (xs : List Row) → AllSpell c ps xs → length ps ≡ length xs
spells_count c [] [] s = refl
spells_count c [] (x ∷ xs) s = absurd s
spells_count c (p ∷ ps) [] s = absurd s
spells_count c (p ∷ ps) (x ∷ xs) s = ap suc (spells_count c ps xs s.1)

-- no rows yet
pub none_filled : (f : Filler) (limits : Limits) (c : Columns) (links : Links) → FillerStands f limits c → RowsFilled f f limits c c [] links
none_filled f limits c links s = record {
  stands = s;
  names = refl;
  prefixes = refl;
  text = omega arith;
  fuller = record { texts = ([], sym (append-nil _)); names = ([], sym (append-nil _)); prefixes = ([], sym (append-nil _)) };
  places = [];
  placed = sym (append-nil _);
  spells = tt;
  linked = tt;
}

-- rows, and then more
pub more_filled : (f g h : Filler) (limits : Limits) (b c d : Columns) (xs ys : List Row) (links : Links) → RowsFilled f g limits b c xs links → RowsFilled g h limits c d ys links
    → RowsFilled f h limits b d (xs ++ ys) links
more_filled f g h limits b c d xs ys links s t = record {
  stands = t.stands;
  names = t.names ∙ ap (λ (n : List Name). names_from n ys) s.names ∙ sym (names_from-append f.pool.names xs ys);
  prefixes = t.prefixes ∙ ap (λ (p : List (List ℕ)). prefixes_from p ys) s.prefixes ∙ sym (prefixes_from-append f.pool.prefixes xs ys);
  text = omega (arith, s.text, t.text, sum_by-append (λ (row : Row). length row.value) xs ys);
  fuller = fuller_on b c d s.fuller t.fuller;
  places = s.places ++ t.places;
  placed = t.placed ∙ ap (λ (p : List RowPlace). p ++ t.places) s.placed ∙ append_assoc b.places s.places t.places;
  spells = spells_on d s.places t.places xs ys (spells_still c d t.fuller s.places xs s.spells) t.spells;
  linked = linked_on links s.places t.places s.linked t.linked;
}

-- what the first rows leave of the room is enough for the next
pub next_fits : (f g : Filler) (limits : Limits) (b c : Columns) (xs ys zs : List Row) (links : Links) → FillerStands f limits b → RowsFit f limits (xs ++ ys ++ zs)
    → RowsFilled f g limits b c xs links → RowsFit g limits ys
next_fits f g limits b c xs ys zs links s fits r =
    let n = names_from_more (names_from g.pool.names ys) zs in
    let p = prefixes_from_more (prefixes_from g.pool.prefixes ys) zs in
    let ne : names_from f.pool.names (xs ++ ys ++ zs) ≡ names_from g.pool.names ys ++ n.0 =
    names_from-append f.pool.names (xs ++ ys) zs ∙ ap (λ (q : List Name). names_from q zs) (names_from-append f.pool.names xs ys ∙ ap (λ (q : List Name). names_from q ys) (sym r.names)) ∙ n.1 in
    let pe : prefixes_from f.pool.prefixes (xs ++ ys ++ zs) ≡ prefixes_from g.pool.prefixes ys ++ p.0 =
    prefixes_from-append f.pool.prefixes (xs ++ ys) zs
    ∙ ap (λ (q : List (List ℕ)). prefixes_from q zs) (prefixes_from-append f.pool.prefixes xs ys ∙ ap (λ (q : List (List ℕ)). prefixes_from q ys) (sym r.prefixes)) ∙ p.1 in
    let nl : length (names_from f.pool.names (xs ++ ys ++ zs)) ≡ length (names_from g.pool.names ys) + length (n.0) = ap length ne ∙ length-append (names_from g.pool.names ys) (n.0) in
    let pl : length (prefixes_from f.pool.prefixes (xs ++ ys ++ zs)) ≡ length (prefixes_from g.pool.prefixes ys) + length (p.0) =
    ap length pe ∙ length-append (prefixes_from g.pool.prefixes ys) (p.0) in
    let nb : name_bytes (names_from f.pool.names (xs ++ ys ++ zs)) ≡ name_bytes (names_from g.pool.names ys) + name_bytes (n.0) =
    ap name_bytes ne ∙ sum_by-append (λ (name : Name). length name.uri + length name.local) (names_from g.pool.names ys) (n.0) in
    let pb : prefix_bytes (prefixes_from f.pool.prefixes (xs ++ ys ++ zs)) ≡ prefix_bytes (prefixes_from g.pool.prefixes ys) + prefix_bytes (p.0) =
    ap prefix_bytes pe ∙ sum_by-append (λ (prefix : List ℕ). length prefix) (prefixes_from g.pool.prefixes ys) (p.0) in
    let vb : value_bytes (xs ++ ys ++ zs) ≡ value_bytes xs + value_bytes ys + value_bytes zs =
    sum_by-append (λ (row : Row). length row.value) (xs ++ ys) zs ∙ ap (λ k. k + value_bytes zs) (sum_by-append (λ (row : Row). length row.value) xs ys) in
    let len : length (xs ++ ys ++ zs) ≡ length xs + length ys + length zs = length-append (xs ++ ys) zs ∙ ap (λ k. k + length zs) (length-append xs ys) in
    let count : length r.places ≡ length xs = spells_count c r.places xs r.spells in
    let rows : g.rows ≡ f.rows + length xs = r.stands.rows ∙ ap length r.placed ∙ length-append b.places r.places ∙ omega (arith, count, s.rows) in
    record {
      rows = omega (arith, rows, len, fits.rows);
      names = omega (arith, nl, pl, fits.names);
      text = omega (arith, r.text, nb, pb, vb, fits.text);
    }
