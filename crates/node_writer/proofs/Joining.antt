-- The writer and the table at a Node.
use Rattle.std.proofs.Common.{◌≡◌, ◌≢◌, ℕ, suc, ◌+◌, ◌-◌, ◌<◌, ◌≤◌, ◌^◌, true, false, ◌&&◌, List, [], ◌∷◌, ◌++◌, length}
use Rattle.std.proofs.Common.{Option, Some, None, IfSome, take, drop, map, get_or, refl, ap, ap₂, sym, ◌∙◌, subst, arith, append_assoc, append-nil, length-append}
use Rattle.std.proofs.lemmas.Bool.{and_parts, false≢true}
use Rattle.std.proofs.lemmas.List.{get_or_at, drop_at, take_all}
use Rattle.std.proofs.lemmas.List.Sums.{sum_by-append}
use Rattle.doc_model.specs.declared.limits.Limits.{Limits}
use Rattle.doc_model.specs.declared.places.Join.{Join}
use Rattle.doc_model.specs.declared.places.RowPlace.{RowPlace}
use Rattle.doc_model.specs.declared.row.Kind.{Kind}
use Rattle.doc_model.specs.declared.row.Kind.TheVariants.{Root, Element, Attribute, Text, Instruction, Comment}
use Rattle.doc_model.specs.declared.row.Row.{Row}
use Rattle.doc_model.specs.declared.step.Step.TheVariants.{Node}
use Rattle.doc_model.specs.Cells.{Columns, Cells, place_at, row_of, node_at, attributes_at, root_place}
use Rattle.doc_model.specs.Document.{Document, document_of, is_parent}
use Rattle.doc_model.specs.Lawful.{CanStep, CanJoin, AllAttributes, may_stand}
use Rattle.doc_model.specs.Legal.{JoinFits, IsInnermost, AreOf, how_of}
use Rattle.doc_model.specs.Legible.{is_empty, is_named_as}
use Rattle.doc_model.specs.Relations.{children_of, last_of}
use Rattle.doc_model.specs.Rows.{rows_of}
use Rattle.doc_laws.proofs.Ends.{lawful_push}
use Rattle.doc_laws.proofs.Growth.{document_of-push}
use Rattle.doc_laws.proofs.Last.{last_child}
use Rattle.doc_laws.proofs.Stack.{stack_of}
use Rattle.name_pool.specs.Names.{Name}
use Rattle.node_writer.specs.declared.filler.Filler.{Filler}
use Rattle.node_writer.specs.declared.filler.Links.{Links}
use Rattle.node_writer.specs.declared.writer.NodeWriter.{NodeWriter}
use Rattle.node_writer.specs.Filled.{SpellsRow}
use Rattle.node_writer.specs.Filler.{IsGiven, LinksFit, RowsFit, RowsFilled, IsLinked, AreLinked, AllSpell}
use Rattle.node_writer.specs.Stack.{innermost, with_joined}
use Rattle.node_writer.specs.Stands.{Stands, StackStands}
use Rattle.node_writer.specs.Taken.{has_name, names_of, names_from, prefixes_of, prefixes_from, name_bytes, prefix_bytes, value_bytes, text_bytes, HasRoom}
use Rattle.node_writer.proofs.Attributes.{attribute_links}
use Rattle.node_writer.proofs.Filling.{none_filled, next_fits, spells_count}
use Rattle.node_writer.proofs.Grown.{spells_row_still}
use Rattle.node_writer.proofs.Shutting.{stack_some}
use Rattle.node_writer.proofs.Stacks.{rows_opened-length, innermost_is, joined_stands}
use Rattle.node_writer.proofs.Taken.{names_from-append, prefixes_from-append}

empty_is : (bytes : List ℕ) → is_empty bytes ≡ true → bytes ≡ []
empty_is [] h = refl
empty_is (byte ∷ bytes) h = absurd cc

-- a row without a name has no URI and no local name
nameless : (kind : Kind) (row : Row) → may_stand kind ≡ true → has_name kind ≡ false → is_named_as kind row ≡ true → (is_empty row.uri && is_empty row.local) ≡ true
nameless Root row m h n = absurd (false≢true m)
nameless Element row m h n = absurd (false≢true (sym h))
nameless Attribute row m h n = absurd (false≢true m)
nameless Text row m h n = (and_parts _ _ n).1
nameless Instruction row m h n = absurd (false≢true (sym h))
nameless Comment row m h n = (and_parts _ _ n).1

-- a row that may be joined is one that a source can give
row_given : (opened : List ℕ) (row : Row) (attributes : List Row) → CanJoin opened row attributes → IsGiven row
row_given opened row attributes j =
    let named : is_named_as row.kind row ≡ true = (and_parts _ _ ((and_parts _ _ j.legible).0)).0 in
    record {
      kind = λ e. false≢true (sym (ap may_stand e) ∙ j.kind);
      uri = λ e. empty_is row.uri (and_parts _ _ (nameless row.kind row j.kind e named)).0;
      local = λ e. empty_is row.local (and_parts _ _ (nameless row.kind row j.kind e named)).1;
    }

no_attribute : (row : Row) (attributes : List Row) (opened : List ℕ) → CanJoin opened row attributes → row.kind ≡ Attribute → ⊥
no_attribute row attributes opened j e = false≢true (sym (ap may_stand e) ∙ j.kind)

childless : (kind : Kind) → may_stand kind ≡ true → kind ≢ Element → is_parent kind ≡ false
childless Root m ne = absurd (false≢true m)
childless Element m ne = absurd (ne refl)
childless Attribute m ne = refl
childless Text m ne = refl
childless Instruction m ne = refl
childless Comment m ne = refl

-- only an element has attributes
bare_count : (row : Row) (attributes : List Row) (opened : List ℕ) → CanJoin opened row attributes → row.kind ≢ Element → length attributes ≡ 0
bare_count row attributes opened j ne = ap length (j.bare (childless row.kind j.kind ne))

child_within : (rows : List Row) (o : ℕ) (last : Option ℕ) (n : ℕ) → last ≡ last_of (children_of rows o) → length rows ≤ n → IfSome last (λ k. k < n)
child_within rows o None n e l = tt
child_within rows o (Some k) n e l = let c = last_child rows o k (sym e) in omega (arith, c.within, l)

one_place : (c : Columns) (ps : List RowPlace) (row : Row) → AllSpell c ps (row ∷ []) → (place : RowPlace) × ((ps ≡ place ∷ []) × SpellsRow c place row)
one_place c [] row s = absurd s
one_place c (p ∷ []) row s = (p, (refl, s.0))
one_place c (p ∷ q ∷ ps) row s = absurd (s.1)

spelled_rows : (c : Columns) (ps : List RowPlace) (xs : List Row) → AllSpell c ps xs → map (row_of c) ps ≡ xs
spelled_rows c [] [] s = refl
spelled_rows c [] (x ∷ xs) s = absurd s
spelled_rows c (p ∷ ps) [] s = absurd s
spelled_rows c (p ∷ ps) (x ∷ xs) s = ap₂ (λ r rs. r ∷ rs) (s.0).spelled (spelled_rows c ps xs s.1)

are_of : (n : ℕ) (ps : List RowPlace) → AreLinked (attribute_links n) ps → AreOf n ps
are_of n [] s = tt
are_of n (p ∷ ps) s = (record { parent = (s.0).parent; prev = (s.0).prev; count = (s.0).count }, are_of n ps s.1)

module _ (w : NodeWriter) (limits : Limits) (cells : Cells) (row : Row) (attributes : List Row) (s : Stands w limits cells) (e : (document_of cells.steps).ended ≡ None)
    (may : CanJoin (document_of cells.steps).opened row attributes) (room : HasRoom limits (rows_of cells.steps ++ row ∷ attributes)) where
  rows : List Row
  rows = rows_of cells.steps

  pub all_fit : RowsFit w.filler limits (row ∷ attributes)
  all_fit =
      let ne : names_of (rows_of cells.steps ++ row ∷ attributes) ≡ names_from w.filler.pool.names (row ∷ attributes) = names_from-append [] (rows_of cells.steps) (row ∷ attributes)
      ∙ ap (λ (n : List Name). names_from n (row ∷ attributes)) (sym s.names) in
      let pe : prefixes_of (rows_of cells.steps ++ row ∷ attributes) ≡ prefixes_from w.filler.pool.prefixes (row ∷ attributes) = prefixes_from-append [] (rows_of cells.steps) (row ∷ attributes)
      ∙ ap (λ (p : List (List ℕ)). prefixes_from p (row ∷ attributes)) (sym s.prefixes) in
      let vb : value_bytes (rows_of cells.steps ++ row ∷ attributes) ≡ value_bytes (rows_of cells.steps) + value_bytes (row ∷ attributes) = sum_by-append (λ (r : Row). length r.value)
      (rows_of cells.steps) (row ∷ attributes) in
      record {
        rows = omega (arith, room.rows, length-append (rows_of cells.steps) (row ∷ attributes), s.joined, s.filler.rows);
        names = omega (arith, room.names, ap length ne, ap length pe);
        text = omega (arith, room.text, ap name_bytes ne, ap prefix_bytes pe, vb, s.text, ap name_bytes s.names, ap prefix_bytes s.prefixes);
      }

  -- what filling the row asks
  pub row_is_given : IsGiven row
  row_is_given = row_given (document_of cells.steps).opened row attributes may

  pub row_fits : RowsFit w.filler limits (row ∷ [])
  row_fits = next_fits w.filler w.filler limits cells.columns cells.columns [] (row ∷ []) attributes (attribute_links 0) s.filler all_fit
      (none_filled w.filler limits cells.columns (attribute_links 0) s.filler)

  pub count_fits : length attributes < 2 ^ 32
  count_fits = omega (arith, all_fit.rows, s.filler.rows_small)

  pub links_fit : (count : ℕ) → count ≡ length attributes → LinksFit cells.columns row (record { parent = (innermost w.stack).row; prev = (innermost w.stack).last; attributes = count })
  links_fit count ce =
      let some = stack_some w limits cells s e in
      let t = s.stack e in
      let at : length w.stack - 1 < length w.stack = omega arith in
      record {
        parent = t.within (length w.stack - 1) at;
        prev = child_within (rows_of cells.steps) (innermost w.stack).row (innermost w.stack).last (length cells.columns.places) (t.lasts (length w.stack - 1) at) (omega (arith, s.joined));
        depth = omega (arith, may.depth, ap length t.rows, rows_opened-length w.stack [], t.depths (length w.stack - 1) at, some);
        bare = λ ne. ce ∙ bare_count row attributes (document_of cells.steps).opened may ne;
        alone = λ k. absurd (no_attribute row attributes (document_of cells.steps).opened may k);
      }

  -- after the row is filled
  module _ (f1 : Filler) (c1 : Columns) (links : Links) (r1 : RowsFilled w.filler f1 limits cells.columns c1 (row ∷ []) links) where
    first_place : (place : RowPlace) × ((r1.places ≡ place ∷ []) × SpellsRow c1 place row)
    first_place = one_place c1 r1.places row r1.spells

    first_placed : c1.places ≡ cells.columns.places ++ first_place.0 ∷ []
    first_placed = r1.placed ∙ ap (λ ps. cells.columns.places ++ ps) (first_place.1.0)

    first_at : place_at c1 w.filler.rows ≡ first_place.0
    first_at = ap (λ ps. get_or ps w.filler.rows root_place) first_placed ∙ get_or_at cells.columns.places (first_place.0) [] root_place w.filler.rows (sym s.filler.rows)

    first_depth : (first_place.0).depth ≡ row.depth
    first_depth = ap (λ (r : Row). r.depth) (first_place.1.1).spelled

    pub row_is_there : w.filler.rows < length c1.places
    row_is_there = omega (arith, s.filler.rows, ap length first_placed, length-append cells.columns.places (first_place.0 ∷ []))

    pub attributes_carried : AllAttributes (place_at c1 w.filler.rows).depth attributes
    attributes_carried = subst (λ d. AllAttributes d attributes) (sym (ap (λ (p : RowPlace). p.depth) first_at ∙ first_depth)) may.carried

    pub attributes_fit : RowsFit f1 limits attributes
    attributes_fit = next_fits w.filler f1 limits cells.columns c1 (row ∷ []) attributes [] links s.filler (subst (λ xs. RowsFit w.filler limits xs) (sym (append-nil (row ∷ attributes))) all_fit) r1

    -- after the attributes are filled
    module _ (linked : links ≡ record { parent = (innermost w.stack).row; prev = (innermost w.stack).last; attributes = length attributes }) (f2 : Filler) (c2 : Columns)
        (r2 : RowsFilled f1 f2 limits c1 c2 attributes (attribute_links w.filler.rows)) where
      all_placed : c2.places ≡ cells.columns.places ++ first_place.0 ∷ r2.places
      all_placed = r2.placed ∙ ap (λ ps. ps ++ r2.places) first_placed ∙ append_assoc cells.columns.places (first_place.0 ∷ []) r2.places

      place_here : place_at c2 w.filler.rows ≡ first_place.0
      place_here = ap (λ ps. get_or ps w.filler.rows root_place) all_placed ∙ get_or_at cells.columns.places (first_place.0) r2.places root_place w.filler.rows (sym s.filler.rows)

      first_linked : IsLinked links (first_place.0)
      first_linked = (subst (λ ps. AreLinked links ps) (first_place.1.0) r1.linked).0

      count_here : (first_place.0).attr_count ≡ length r2.places
      count_here = first_linked.count ∙ ap (λ (l : Links). l.attributes) linked ∙ sym (spells_count c2 r2.places attributes r2.spells)

      attributes_here : attributes_at c2 w.filler.rows ≡ r2.places
      attributes_here =
          ap (λ (p : RowPlace). take p.attr_count (drop (suc w.filler.rows) c2.places)) place_here
          ∙ ap (λ ps. take (first_place.0).attr_count (drop (suc w.filler.rows) ps)) (all_placed ∙ sym (append_assoc cells.columns.places (first_place.0 ∷ []) r2.places))
          ∙ ap (take (first_place.0).attr_count) (drop_at (cells.columns.places ++ first_place.0 ∷ []) r2.places (suc w.filler.rows)
          (omega (arith, s.filler.rows, length-append cells.columns.places (first_place.0 ∷ []))))
          ∙ take_all (first_place.0).attr_count r2.places (omega (arith, count_here))

      -- the row and its attributes are spelled as they were given
      pub node_here : node_at c2 w.filler.rows ≡ Node row attributes
      node_here =
          let r : row_of c2 (place_at c2 w.filler.rows) ≡ row = ap (row_of c2) place_here ∙ (spells_row_still c1 c2 r2.fuller (first_place.0) row (first_place.1.1)).spelled in
          let a : map (row_of c2) (attributes_at c2 w.filler.rows) ≡ attributes = ap (map (row_of c2)) attributes_here ∙ spelled_rows c2 r2.places attributes r2.spells in
          ap₂ (λ x xs. Node x xs) r a

      parent_here : (place_at c2 w.filler.rows).parent ≡ (innermost w.stack).row
      parent_here = ap (λ (p : RowPlace). p.parent) place_here ∙ first_linked.parent ∙ ap (λ (l : Links). l.parent) linked

      last_here : (innermost w.stack).last ≡ last_of (children_of (rows_of cells.steps) (innermost w.stack).row)
      last_here = let some = stack_some w limits cells s e in (s.stack e).lasts (length w.stack - 1) (omega arith)

      innermost_here : IsInnermost (document_of cells.steps).opened (innermost w.stack).row
      innermost_here = subst (λ os. IsInnermost os (innermost w.stack).row) (sym (s.stack e).rows) (innermost_is w.stack (stack_some w limits cells s e))

      pub join_fits : (filled : Cells) (how : Join) → filled.columns ≡ c2 → filled.steps ≡ cells.steps → how ≡ how_of (innermost w.stack).row (innermost w.stack).last
          → JoinFits filled w.filler.rows how
      join_fits filled how ce se he =
          let made : Cells = record { columns = c2; steps = cells.steps } in
          let here : JoinFits made w.filler.rows how = record {
            next = s.filler.rows ∙ s.joined;
            filled = omega (arith, ap (λ (p : RowPlace). p.attr_count) place_here, count_here, ap length all_placed, length-append cells.columns.places (first_place.0 ∷ r2.places), s.filler.rows);
            going = e;
            may = subst (λ step. CanStep (document_of cells.steps) step) (sym node_here) may;
            innermost = subst (λ n. IsInnermost (document_of cells.steps).opened n) (sym parent_here) innermost_here;
            attributes = subst (λ ps. AreOf w.filler.rows ps) (sym attributes_here) (are_of w.filler.rows r2.places r2.linked);
            prev = ap (λ (p : RowPlace). p.prev) place_here ∙ first_linked.prev ∙ ap (λ (l : Links). l.prev) linked ∙ last_here
                ∙ ap (λ n. last_of (children_of (rows_of cells.steps) n)) (sym parent_here);
            link = he ∙ ap (how_of (innermost w.stack).row) last_here ∙ ap (λ n. how_of n (last_of (children_of (rows_of cells.steps) n))) (sym parent_here);
          } in
          let same : made ≡ filled = ap₂ (λ x y. let r : Cells = record { columns = x; steps = y } in r) (sym ce) (sym se) in
          subst (λ x. JoinFits x w.filler.rows how) same here

      -- the writer after the join
      pub joined_still : Stands (record { filler = f2; stack = with_joined w.stack w.filler.rows row.kind }) limits (record { columns = c2; steps = cells.steps ++ Node row attributes ∷ [] })
      joined_still =
          let push = document_of-push cells.steps (Node row attributes) in
          let given : rows_of (cells.steps ++ Node row attributes ∷ []) ≡ rows_of cells.steps ++ row ∷ attributes = ap (λ (d : Document). d.rows) push in
          let ne : f2.pool.names ≡ names_of (rows_of cells.steps ++ row ∷ attributes) =
          r2.names ∙ ap (λ (n : List Name). names_from n attributes) (r1.names ∙ ap (λ (n : List Name). names_from n (row ∷ [])) s.names)
          ∙ sym (names_from-append [] (rows_of cells.steps) (row ∷ attributes)) in
          let pe : f2.pool.prefixes ≡ prefixes_of (rows_of cells.steps ++ row ∷ attributes) =
          r2.prefixes ∙ ap (λ (p : List (List ℕ)). prefixes_from p attributes) (r1.prefixes ∙ ap (λ (p : List (List ℕ)). prefixes_from p (row ∷ [])) s.prefixes)
          ∙ sym (prefixes_from-append [] (rows_of cells.steps) (row ∷ attributes)) in
          let v1 : value_bytes (row ∷ attributes) ≡ value_bytes (row ∷ []) + value_bytes attributes = sum_by-append (λ (r : Row). length r.value) (row ∷ []) attributes in
          let v2 : value_bytes (rows_of cells.steps ++ row ∷ attributes) ≡ value_bytes (rows_of cells.steps) + value_bytes (row ∷ attributes) = sum_by-append (λ (r : Row). length r.value)
          (rows_of cells.steps) (row ∷ attributes) in
          let te : f2.text ≡ text_bytes (rows_of cells.steps ++ row ∷ attributes) =
          omega (arith, s.text, ap name_bytes s.names, ap prefix_bytes s.prefixes, r1.text, r2.text, ap name_bytes ne, ap prefix_bytes pe, v1, v2) in
          let count : length r2.places ≡ length attributes = spells_count c2 r2.places attributes r2.spells in
          record {
            lawful = lawful_push cells.steps (Node row attributes) s.lawful e may;
            filler = r2.stands;
            joined = ap length all_placed ∙ length-append cells.columns.places (first_place.0 ∷ r2.places) ∙ omega (arith, s.joined, count)
                ∙ sym (length-append (rows_of cells.steps) (row ∷ attributes)) ∙ ap length (sym given);
            names = ne ∙ ap names_of (sym given);
            prefixes = pe ∙ ap prefixes_of (sym given);
            text = te ∙ ap text_bytes (sym given);
            stack = λ h. subst (λ (d : Document). StackStands c2 d.rows (with_joined w.stack w.filler.rows row.kind) d.opened) (sym push)
                (joined_stands cells.columns c2 (rows_of cells.steps) w.stack (document_of cells.steps).opened row attributes (s.stack e) (stack_of cells.steps s.lawful) may
                (stack_some w limits cells s e) w.filler.rows
                (s.filler.rows ∙ s.joined) (first_place.0 ∷ r2.places) all_placed (ap (λ (p : RowPlace). p.depth) place_here ∙ first_depth)
                (omega (arith, ap length all_placed, length-append cells.columns.places (first_place.0 ∷ r2.places), s.filler.rows)));
          }
