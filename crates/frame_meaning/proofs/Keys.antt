-- Items whose sort keys are evaluated, one row of keys after the other (XSLT 1.0, section 10).
use Rattle.std.proofs.Common.{◌≡◌, refl, sym, ap, ◌∙◌, ℕ, zero, suc, List, [], ◌∷◌, ◌++◌, append-nil, append_assoc, drop, length}
use Rattle.std.specs.Borrow.{Bor}
use Rattle.doc_model.specs.Answers as answer
use Rattle.engine_meaning.specs.Execution.{Templates}
use Rattle.engine_meaning.specs.Items.{over}
use Rattle.engine_meaning.specs.Places.{World, Setting, at_item}
use Rattle.engine_meaning.specs.Runs.{State, Ran, Faulted, Waits, after, pure, ask}
use Rattle.engine_meaning.specs.Sorts.{in_key_order, keys_at, rows_from}
use Rattle.fault_kinds.specs.declared.fault.FaultKind.{FaultKind}
use Rattle.frame_meaning.specs.Acted.{room}
use Rattle.frame_meaning.specs.Apart.{surface, under}
use Rattle.frame_meaning.specs.Rest.{rest}
use Rattle.frame_meaning.specs.Stand.{Stand, at_place, setting_at}
use Rattle.frame_meaning.specs.Work.{work_does}
use Rattle.frames.specs.Apart.{base}
use Rattle.frames.specs.declared.frame.Frame.{Frame}
use Rattle.frames.specs.declared.frame.Frame.TheVariants as f
use Rattle.frames.specs.declared.parts.Work.{Work}
use Rattle.sheet_ast.specs.declared.instruction.SortDecl.{SortDecl}
use Rattle.sheet_ast.specs.declared.sheet.Sheet.{Sheet}
use Rattle.sort_keys.specs.declared.key.KeyPart.{KeyPart}
use Rattle.xpath_meaning.specs.Outcome.{Outcome, ◌>>=◌}
use Rattle.xpath_meaning.specs.declared.context.Context.{Context}
use Rattle.xpath_meaning.specs.declared.context.Size.TheVariants as size

behind_next : (k : ℕ) (ns : List ℕ) (n : ℕ) (more : List ℕ) → drop k ns ≡ n ∷ more → drop (suc k) ns ≡ more
behind_next zero ns n more h = ap (drop 1) h
behind_next (suc k) [] n more h = cc
behind_next (suc k) (m ∷ ns) n more h = behind_next k ns n more h

one_more : (rows : List (List KeyPart)) (row : List KeyPart) → length (rows ++ row ∷ []) ≡ suc (length rows)
one_more [] row = refl
one_more (x ∷ rows) row = ap suc (one_more rows row)

module _ (sheet : Sheet) (w : World) (frames : List Frame) (h : Stand) (s : State) (nodes : List ℕ) (sorts : Bor (List SortDecl)) (k : Work) (context : Context) where
  abbrev W : Setting
  W = setting_at sheet w h

  abbrev T : Templates
  T = room sheet w frames h

  abbrev at : Context → Stand
  at x = at_place h x h.place.locals

  -- the keys of the items that have none yet
  abbrev others : ℕ → List ℕ → Outcome (List (List KeyPart))
  others first ns = rows_from W h.place sorts.now (size.Known (length nodes)) (suc first) ns

  -- behind these rows, with the others as they are found
  abbrev keyed : List (List KeyPart) → Outcome (List (List KeyPart)) → Ran (Unit {0})
  keyed rows o =
      after (under (base frames) (after (after (ask o s) (λ more. over (work_does k W T h.place.locals) (in_key_order sorts.now nodes (rows ++ more)))) (λ _. pure (at context)))) (rest sheet w frames)

  -- behind all rows
  abbrev ordered : List (List KeyPart) → Ran (Unit {0})
  ordered rows = after (under (base frames) (after (over (work_does k W T h.place.locals) (in_key_order sorts.now nodes rows) s) (λ _. pure (at context)))) (rest sheet w frames)

  keys_as : (rows : List (List KeyPart)) (first : ℕ) (ns : List ℕ) → length rows ≡ first → drop first nodes ≡ ns
      → rest sheet w (f.Keys nodes rows sorts k context ∷ frames) h s ≡ keyed rows (others first ns)
  keys_as rows first ns count is =
      ap (λ i. keyed rows (others i (drop i nodes))) count
      ∙ ap (λ l. keyed rows (others first l)) is

  pub keys_end : (rows : List (List KeyPart)) → drop (length rows) nodes ≡ []
      → rest sheet w (f.Keys nodes rows sorts k context ∷ frames) h s ≡ rest sheet w (f.Items (in_key_order sorts.now nodes rows) 0 k context ∷ frames) h s
  keys_end rows is = keys_as rows (length rows) [] refl is ∙ ap ordered (append-nil rows)

  -- the first of the others is found
  row_first : (rows : List (List KeyPart)) (row : List KeyPart) (o : Outcome (List (List KeyPart))) → keyed rows (o >>= λ more. answer.Known (row ∷ more)) ≡ keyed (rows ++ row ∷ []) o
  row_first rows row (answer.Known more) = ap ordered (sym (append_assoc rows (row ∷ []) more))
  row_first rows row (answer.Fault e) = refl
  row_first rows row (answer.Open m) = refl

  row_as : (rows : List (List KeyPart)) (n : ℕ) (ns : List ℕ) (o : Outcome (List KeyPart)) → drop (length rows) nodes ≡ n ∷ ns
      → keys_at W h.place sorts.now (at_item (size.Known (length nodes)) (suc (length rows)) n) ≡ o
      → rest sheet w (f.Keys nodes rows sorts k context ∷ frames) h s ≡ keyed rows (o >>= λ row. others (suc (length rows)) ns >>= λ more. answer.Known (row ∷ more))
  row_as rows n ns o is has =
      keys_as rows (length rows) (n ∷ ns) refl is
      ∙ ap (λ (o : Outcome (List KeyPart)). keyed rows (o >>= λ row. others (suc (length rows)) ns >>= λ more. answer.Known (row ∷ more))) has

  pub row_moves : (rows : List (List KeyPart)) (n : ℕ) (ns : List ℕ) (row : List KeyPart) → drop (length rows) nodes ≡ n ∷ ns
      → keys_at W h.place sorts.now (at_item (size.Known (length nodes)) (suc (length rows)) n) ≡ answer.Known row
      → rest sheet w (f.Keys nodes rows sorts k context ∷ frames) h s ≡ rest sheet w (f.Keys nodes (rows ++ row ∷ []) sorts k context ∷ frames) h s
  row_moves rows n ns row is has =
      row_as rows n ns (answer.Known row) is has
      ∙ row_first rows row (others (suc (length rows)) ns)
      ∙ sym (keys_as (rows ++ row ∷ []) (suc (length rows)) ns (one_more rows row) (behind_next (length rows) nodes n ns is))

  pub row_fails : (rows : List (List KeyPart)) (n : ℕ) (ns : List ℕ) (e : FaultKind) → drop (length rows) nodes ≡ n ∷ ns
      → keys_at W h.place sorts.now (at_item (size.Known (length nodes)) (suc (length rows)) n) ≡ answer.Fault e
      → rest sheet w (f.Keys nodes rows sorts k context ∷ frames) h s ≡ Faulted e (surface (base frames) s)
  row_fails rows n ns e is has = row_as rows n ns (answer.Fault e) is has

  pub row_waits : (rows : List (List KeyPart)) (n : ℕ) (ns : List ℕ) (m : ℕ) → drop (length rows) nodes ≡ n ∷ ns
      → keys_at W h.place sorts.now (at_item (size.Known (length nodes)) (suc (length rows)) n) ≡ answer.Open m
      → rest sheet w (f.Keys nodes rows sorts k context ∷ frames) h s ≡ Waits m (surface (base frames) s)
  row_waits rows n ns m is has = row_as rows n ns (answer.Open m) is has
