-- Filling leaves what is spelled.
use Rattle.std.proofs.Common.{◌≡◌, ℕ, ◌+◌, ◌<◌, ◌≤◌, List, [], ◌++◌, length, take, drop, get_or, ap, sym, ◌∙◌, subst, arith, append-nil, append_assoc, length-append, length-drop}
use Rattle.std.proofs.lemmas.List.{get_or_append_left, take-append-le, drop-append-le, drop_at, take_at}
use Rattle.doc_model.specs.declared.row.Row.{Row}
use Rattle.doc_model.specs.declared.places.RowPlace.{RowPlace}
use Rattle.doc_model.specs.declared.places.NamePlace.{NamePlace}
use Rattle.doc_model.specs.declared.places.PrefixPlace.{PrefixPlace}
use Rattle.doc_model.specs.Cells.{Columns, Cells, name_at, prefix_at, row_of, slice_of, no_name, no_prefix}
use Rattle.doc_model.specs.Legal.{NameFits, PrefixFits}
use Rattle.name_pool.specs.Names.{Name}
use Rattle.node_writer.specs.Filled.{SpellsName, SpellsPrefix, SpellsRow, IsFuller, FillsTexts}

slice_grows : (xs ys : List ℕ) (at len : ℕ) → at + len ≤ length xs → slice_of (xs ++ ys) at len ≡ slice_of xs at len
slice_grows xs ys at len h =
    ap (take len) (drop-append-le at xs ys (omega arith)) ∙ take-append-le len (drop at xs) ys (omega (arith, length-drop at xs))

pub fuller_none : (c d : Columns) → d.texts ≡ c.texts → d.names ≡ c.names → d.prefixes ≡ c.prefixes → IsFuller c d
fuller_none c d t n p = record { texts = ([], t ∙ sym (append-nil _)); names = ([], n ∙ sym (append-nil _)); prefixes = ([], p ∙ sym (append-nil _)) }

pub fuller_on : (b c d : Columns) → IsFuller b c → IsFuller c d → IsFuller b d
fuller_on b c d f g = record {
  texts = (f.texts.0 ++ g.texts.0, g.texts.1 ∙ ap (λ xs. xs ++ g.texts.0) (f.texts.1) ∙ append_assoc b.texts (f.texts.0) (g.texts.0));
  names = (f.names.0 ++ g.names.0, g.names.1 ∙ ap (λ xs. xs ++ g.names.0) (f.names.1) ∙ append_assoc b.names (f.names.0) (g.names.0));
  prefixes = (f.prefixes.0 ++ g.prefixes.0, g.prefixes.1 ∙ ap (λ xs. xs ++ g.prefixes.0) (f.prefixes.1) ∙ append_assoc b.prefixes (f.prefixes.0) (g.prefixes.0));
}

pub fills_on : (b c d : Cells) → FillsTexts b c → FillsTexts c d → FillsTexts b d
fills_on b c d f g = record { fuller = fuller_on b.columns c.columns d.columns f.fuller g.fuller; places = g.places ∙ f.places; steps = g.steps ∙ f.steps }

module _ (c d : Columns) (fuller : IsFuller c d) where
  pub texts_grow : length c.texts ≤ length d.texts
  texts_grow = omega (arith, ap length (fuller.texts.1), length-append c.texts (fuller.texts.0))

  pub names_grow : length c.names ≤ length d.names
  names_grow = omega (arith, ap length (fuller.names.1), length-append c.names (fuller.names.0))

  pub prefixes_grow : length c.prefixes ≤ length d.prefixes
  prefixes_grow = omega (arith, ap length (fuller.prefixes.1), length-append c.prefixes (fuller.prefixes.0))

  pub slice_same : (at len : ℕ) → at + len ≤ length c.texts → slice_of d.texts at len ≡ slice_of c.texts at len
  slice_same at len h = ap (λ t. slice_of t at len) (fuller.texts.1) ∙ slice_grows c.texts (fuller.texts.0) at len h

  pub name_same : (id : ℕ) → id < length c.names → name_at d id ≡ name_at c id
  name_same id l = ap (λ xs. get_or xs id no_name) (fuller.names.1) ∙ get_or_append_left c.names (fuller.names.0) no_name id l

  pub prefix_same : (id : ℕ) → id < length c.prefixes → prefix_at d id ≡ prefix_at c id
  prefix_same id l = ap (λ xs. get_or xs id no_prefix) (fuller.prefixes.1) ∙ get_or_append_left c.prefixes (fuller.prefixes.0) no_prefix id l

  pub name_fits_still : (name : NamePlace) → NameFits c name → NameFits d name
  name_fits_still name f = record { uri = omega (arith, f.uri, texts_grow); local = omega (arith, f.local, texts_grow) }

  pub spells_name_still : (place : NamePlace) (name : Name) → SpellsName c place name → SpellsName d place name
  spells_name_still place name s = record {
    fits = name_fits_still place s.fits;
    kind = s.kind;
    uri = slice_same place.uri_at place.uri_len s.fits.uri ∙ s.uri;
    local = slice_same place.local_at place.local_len s.fits.local ∙ s.local;
  }

  pub spells_prefix_still : (place : PrefixPlace) (prefix : List ℕ) → SpellsPrefix c place prefix → SpellsPrefix d place prefix
  spells_prefix_still place prefix s = record { fits = omega (arith, s.fits, texts_grow); text = slice_same place.at place.len s.fits ∙ s.text }

  pub spells_row_still : (place : RowPlace) (row : Row) → SpellsRow c place row → SpellsRow d place row
  spells_row_still place row s =
      let n = name_same place.type_id s.type in
      let p = prefix_same place.prefix_id s.prefix in
      let name : NamePlace = name_at c place.type_id in
      let prefix : PrefixPlace = prefix_at c place.prefix_id in
      let a : slice_of d.texts (prefix_at d place.prefix_id).at (prefix_at d place.prefix_id).len ≡ slice_of c.texts prefix.at prefix.len =
      ap (λ (q : PrefixPlace). slice_of d.texts q.at q.len) p ∙ slice_same prefix.at prefix.len s.prefix_fits in
      let b : slice_of d.texts (name_at d place.type_id).uri_at (name_at d place.type_id).uri_len ≡ slice_of c.texts name.uri_at name.uri_len =
      ap (λ (q : NamePlace). slice_of d.texts q.uri_at q.uri_len) n ∙ slice_same name.uri_at name.uri_len s.name_fits.uri in
      let e : slice_of d.texts (name_at d place.type_id).local_at (name_at d place.type_id).local_len ≡ slice_of c.texts name.local_at name.local_len =
      ap (λ (q : NamePlace). slice_of d.texts q.local_at q.local_len) n ∙ slice_same name.local_at name.local_len s.name_fits.local in
      let v : slice_of d.texts place.text_at place.text_len ≡ slice_of c.texts place.text_at place.text_len = slice_same place.text_at place.text_len s.text_fits in
      let same : row_of d place ≡ row_of c place = cc in
      record {
        type = omega (arith, s.type, names_grow);
        prefix = omega (arith, s.prefix, prefixes_grow);
        name_fits = subst (λ q. NameFits d q) (sym n) (name_fits_still name s.name_fits);
        prefix_fits = subst (λ q. PrefixFits d q) (sym p) (omega (arith, s.prefix_fits, texts_grow));
        text_fits = omega (arith, s.text_fits, texts_grow);
        spelled = same ∙ s.spelled;
      }

-- a slice of what was put at the end
pub slice_at : (xs ys zs : List ℕ) (at len : ℕ) → at ≡ length xs → len ≡ length ys → slice_of (xs ++ ys ++ zs) at len ≡ ys
slice_at xs ys zs at len ea el =
    ap (λ t. take len (drop at t)) (append_assoc xs ys zs) ∙ ap (take len) (drop_at xs (ys ++ zs) at (sym ea)) ∙ take_at ys zs len (sym el)

pub slice_end : (xs ys : List ℕ) (at len : ℕ) → at ≡ length xs → len ≡ length ys → slice_of (xs ++ ys) at len ≡ ys
slice_end xs ys at len ea el = ap (λ t. slice_of t at len) (sym (append-nil (xs ++ ys))) ∙ slice_at xs ys [] at len ea el
