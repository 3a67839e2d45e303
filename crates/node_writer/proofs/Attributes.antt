-- The attributes of an element, one after the other.
use Rattle.std.proofs.Common.{◌≡◌, ℕ, true, suc, ◌+◌, ◌<◌, List, [], ◌∷◌, ◌++◌, length, Some, None, take, drop, get_or, refl, ap, sym, ◌∙◌, subst, arith, add-one, length-append}
use Rattle.std.proofs.Math.Seq.{take-suc}
use Rattle.std.proofs.lemmas.Bool.{false≢true}
use Rattle.std.proofs.lemmas.List.{get_or_append_left, take-append-drop}
use Rattle.std.proofs.lemmas.Option.{slice_get-get_or}
use Rattle.doc_model.specs.declared.limits.Limits.{Limits}
use Rattle.doc_model.specs.declared.places.RowPlace.{RowPlace}
use Rattle.doc_model.specs.declared.row.Kind.{Kind}
use Rattle.doc_model.specs.declared.row.Kind.TheVariants.{Root, Attribute}
use Rattle.doc_model.specs.declared.row.Row.{Row}
use Rattle.doc_model.specs.Cells.{Columns, place_at, root_place}
use Rattle.doc_model.specs.Lawful.{AllAttributes}
use Rattle.doc_model.specs.Rows.{row_at, root_row}
use Rattle.doc_laws.proofs.Stack.{attribute_depths}
use Rattle.node_writer.specs.declared.filler.Filler.{Filler}
use Rattle.node_writer.specs.declared.filler.Links.{Links}
use Rattle.node_writer.specs.Filler.{FillerStands, IsGiven, LinksFit, RowsFit, RowsFilled}
use Rattle.node_writer.specs.Taken.{has_name}
use Rattle.node_writer.proofs.Filling.{more_filled, next_fits}

some_row : (a b : Row) → Some a ≡ Some b → a ≡ b
some_row a b h = cc

same_item : (xs : List Row) (i : ℕ) (x : Row) → i < length xs → x ≡ get_or xs i x → row_at xs i ≡ x
same_item xs i x l e = some_row _ _ (sym (slice_get-get_or xs i root_row l) ∙ slice_get-get_or xs i x l) ∙ sym e

take_next : (xs : List Row) (i : ℕ) (x : Row) → i < length xs → x ≡ get_or xs i x → take (i + 1) xs ≡ take i xs ++ x ∷ []
take_next xs i x l e = ap (λ k. take k xs) (add-one i) ∙ take-suc xs i x l ∙ ap (λ y. take i xs ++ y ∷ []) (sym e)

split_item : (xs : List Row) (i : ℕ) (x : Row) → i < length xs → x ≡ get_or xs i x → xs ≡ take i xs ++ x ∷ [] ++ drop (i + 1) xs
split_item xs i x l e = sym (take-append-drop (i + 1) xs) ∙ ap (λ ys. ys ++ drop (i + 1) xs) (take_next xs i x l e)

no_attribute : (kind other : Kind) → kind ≡ Attribute → (Attribute ≡ other → ⊥) → kind ≡ other → ⊥
no_attribute kind other a h e = h (sym a ∙ e)

abbrev pub attribute_links : ℕ → Links
attribute_links n = record { parent = n; prev = None; attributes = 0 }

module _ (f g : Filler) (limits : Limits) (b c : Columns) (xs : List Row) (i n : ℕ) (x : Row) (within : i < length xs) (item : x ≡ get_or xs i x) where
  pub item_given : (d : ℕ) → AllAttributes d xs → IsGiven x
  item_given d a =
      let at = attribute_depths d xs i a within in
      let kind : x.kind ≡ Attribute = ap (λ (r : Row). r.kind) (sym (same_item xs i x within item)) ∙ at.0 in
      let named : has_name x.kind ≡ true = ap has_name kind in
      record { kind = no_attribute x.kind Root kind (λ e. cc); uri = λ e. absurd (false≢true (sym e ∙ named)); local = λ e. absurd (false≢true (sym e ∙ named)) }

  pub item_fits : FillerStands f limits b → RowsFit f limits xs → RowsFilled f g limits b c (take i xs) (attribute_links n) → RowsFit g limits (x ∷ [])
  item_fits s fits r = next_fits f g limits b c (take i xs) (x ∷ []) (drop (i + 1) xs) (attribute_links n) s (subst (λ ys. RowsFit f limits ys) (split_item xs i x within item) fits) r

  pub item_links : n < length b.places → AllAttributes (place_at b n).depth xs → RowsFilled f g limits b c (take i xs) (attribute_links n) → LinksFit c x (attribute_links n)
  item_links l a r =
      let at = attribute_depths (place_at b n).depth xs i a within in
      let same : place_at c n ≡ place_at b n = ap (λ ps. get_or ps n root_place) r.placed ∙ get_or_append_left b.places r.places root_place n l in
      let deep : x.depth ≡ suc (place_at b n).depth = ap (λ (r : Row). r.depth) (sym (same_item xs i x within item)) ∙ at.1 in
      record {
        parent = omega (arith, l, ap length r.placed, length-append b.places r.places);
        prev = tt;
        depth = deep ∙ ap (λ (p : RowPlace). suc p.depth) (sym same);
        bare = λ e. refl;
        alone = λ e. refl;
      }

  pub item_filled : (h : Filler) (d : Columns) → RowsFilled f g limits b c (take i xs) (attribute_links n) → RowsFilled g h limits c d (x ∷ []) (attribute_links n)
      → RowsFilled f h limits b d (take (i + 1) xs) (attribute_links n)
  item_filled h d r s = subst (λ ys. RowsFilled f h limits b d ys (attribute_links n)) (sym (take_next xs i x within item))
      (more_filled f g h limits b c d (take i xs) (x ∷ []) (attribute_links n) r s)
