-- The frames of selects.
use Rattle.std.proofs.Common.{◌≡◌, refl, sym, ap, ◌∙◌, ℕ, List, [], ◌∷◌, ◌++◌, length, true, false, Option, Some, None}
use Rattle.std.specs.Borrow.{Bor}
use Rattle.std.specs.Option.{is_some}
use Rattle.doc_model.specs.Answers.{Known, Fault, Open}
use Rattle.engine_meaning.specs.Execution.{templates}
use Rattle.engine_meaning.specs.Items.{AtItem, over, streamed, unsorted}
use Rattle.engine_meaning.specs.Places.{World, Setting, Place}
use Rattle.engine_meaning.specs.Questions.{nodes_at}
use Rattle.engine_meaning.specs.Runs.{State, Faulted, Waits, after, pure, ask}
use Rattle.engine_meaning.specs.Sorts.{in_key_order, rows_from}
use Rattle.engine_questions.specs.Walks.{is_streamed}
use Rattle.fault_kinds.specs.declared.fault.FaultKind.{FaultKind}
use Rattle.frame_meaning.proofs.Asks.{ask_maps}
use Rattle.frame_meaning.specs.Selects.{selects}
use Rattle.frame_meaning.specs.Stand.{Stand, setting_at}
use Rattle.frame_meaning.specs.Work.{frame_does, work_does}
use Rattle.frames.specs.declared.frame.Frame.TheVariants as f
use Rattle.frames.specs.declared.parts.Work.{Work}
use Rattle.sheet_ast.specs.declared.instruction.SortDecl.{SortDecl}
use Rattle.sheet_ast.specs.declared.sheet.Sheet.{Sheet}
use Rattle.xpath_meaning.specs.Evaluation.{items_by, meant}
use Rattle.xpath_meaning.specs.Meanings.{Meaning}
use Rattle.xpath_meaning.specs.Outcome.{Outcome, ◌>>=◌}
use Rattle.xpath_meaning.specs.Streams.{Stream}
use Rattle.xpath_meaning.specs.declared.context.Size.TheVariants as size
use Rattle.xpath_syntax.specs.declared.expression.Expr.{Expr}
use Rattle.xpath_values.specs.declared.value.Value.{Value}

module _ (sheet : Sheet) (w : World) (h : Stand) where
  abbrev W : Setting
  W = setting_at sheet w h

  abbrev c : Place
  c = h.place

  streamed_so : (items : Option (Meaning Stream)) (v : Meaning (Outcome Value)) (e : Expr) (act : AtItem) (s : State) → is_some items ≡ true
      → streamed act (items_by items v w.reading (h.globals ++ c.locals) c.context) s ≡ unsorted items W c e act s
  streamed_so (Some items) v e act s is = refl
  streamed_so None v e act s is = absurd (let no : false ≡ true = is in cc)

  whole_so : (items : Option (Meaning Stream)) (e : Expr) (act : AtItem) (s : State) → is_some items ≡ false → after (ask (nodes_at W c e) s) (over act) ≡ unsorted items W c e act s
  whole_so (Some items) e act s is = absurd (let no : true ≡ false = is in cc)
  whole_so None e act s is = refl

  -- a path whose nodes may be taken one by one, and no sort
  pub stream_selects : (select : Bor Expr) (k : Work) (more : ℕ) (s : State) → is_streamed select.now ≡ true
      → frame_does (f.Stream (Some select) 0 k c.context) sheet w more h s ≡ selects sheet w h select.now [] k more s
  stream_selects select k more s is =
      ap (λ o. after o (λ _. pure h)) (streamed_so (meant select.now).items (meant select.now).value select.now (work_does k W (templates more W) c.locals) s is)

  whole_as : (select : Expr) (k : Work) (more : ℕ) (s : State) (o : Outcome (List ℕ)) → is_streamed select ≡ false → nodes_at W c select ≡ o
      → selects sheet w h select [] k more s ≡ after (after (ask o s) (over (work_does k W (templates more W) c.locals))) (λ _. pure h)
  whole_as select k more s o plain is =
      sym (ap (λ o. after o (λ _. pure h)) (whole_so (meant select).items select (work_does k W (templates more W) c.locals) s plain))
      ∙ ap (λ (o : Outcome (List ℕ)). after (after (ask o s) (over (work_does k W (templates more W) c.locals))) (λ _. pure h)) is

  -- any other select, and no sort
  pub nodes_select : (select : Expr) (k : Work) (more : ℕ) (s : State) (nodes : List ℕ) → is_streamed select ≡ false → nodes_at W c select ≡ Known nodes
      → frame_does (f.Items nodes 0 k c.context) sheet w more h s ≡ selects sheet w h select [] k more s
  nodes_select select k more s nodes plain is = sym (whole_as select k more s (Known nodes) plain is)

  pub nodes_fail : (select : Expr) (k : Work) (more : ℕ) (s : State) (e : FaultKind) → is_streamed select ≡ false → nodes_at W c select ≡ Fault e → selects sheet w h select [] k more s ≡ Faulted e s
  nodes_fail select k more s e plain is = whole_as select k more s (Fault e) plain is

  pub nodes_wait : (select : Expr) (k : Work) (more : ℕ) (s : State) (m : ℕ) → is_streamed select ≡ false → nodes_at W c select ≡ Open m → selects sheet w h select [] k more s ≡ Waits m s
  nodes_wait select k more s m plain is = whole_as select k more s (Open m) plain is

  sorted_as : (select : Expr) (sort : SortDecl) (sorts : List SortDecl) (k : Work) (more : ℕ) (s : State) (o : Outcome (List ℕ)) → nodes_at W c select ≡ o
      → selects sheet w h select (sort ∷ sorts) k more s
      ≡ after (after (ask (o >>= λ nodes. rows_from W c (sort ∷ sorts) (size.Known (length nodes)) 1 nodes >>= λ rows. Known (in_key_order (sort ∷ sorts) nodes rows)) s)
      (over (work_does k W (templates more W) c.locals))) (λ _. pure h)
  sorted_as select sort sorts k more s o is =
      ap (λ (o : Outcome (List ℕ)). after
      (after (ask (o >>= λ nodes. rows_from W c (sort ∷ sorts) (size.Known (length nodes)) 1 nodes >>= λ rows. Known (in_key_order (sort ∷ sorts) nodes rows)) s)
      (over (work_does k W (templates more W) c.locals))) (λ _. pure h)) is

  -- a select that is sorted: its nodes, and then the keys of each
  pub sorted_select : (select : Expr) (sorts : Bor (List SortDecl)) (sort : SortDecl) (others : List SortDecl) (k : Work) (more : ℕ) (s : State) (nodes : List ℕ)
      → sorts.now ≡ sort ∷ others → nodes_at W c select ≡ Known nodes
      → frame_does (f.Keys nodes [] sorts k c.context) sheet w more h s ≡ selects sheet w h select sorts.now k more s
  sorted_select select sorts sort others k more s nodes has is =
      sym (ap (λ l. selects sheet w h select l k more s) has
      ∙ sorted_as select sort others k more s (Known nodes) is
      ∙ ap (λ o. after o (λ _. pure h))
      (ask_maps (rows_from W c (sort ∷ others) (size.Known (length nodes)) 1 nodes) (in_key_order (sort ∷ others) nodes) (over (work_does k W (templates more W) c.locals)) s)
      ∙ sym (ap (λ l. after (after (ask (rows_from W c l (size.Known (length nodes)) 1 nodes) s)
      (λ rows. over (work_does k W (templates more W) c.locals) (in_key_order l nodes rows))) (λ _. pure h)) has))

  pub sorted_fail : (select : Expr) (sort : SortDecl) (sorts : List SortDecl) (k : Work) (more : ℕ) (s : State) (e : FaultKind) → nodes_at W c select ≡ Fault e
      → selects sheet w h select (sort ∷ sorts) k more s ≡ Faulted e s
  sorted_fail select sort sorts k more s e is = sorted_as select sort sorts k more s (Fault e) is

  pub sorted_wait : (select : Expr) (sort : SortDecl) (sorts : List SortDecl) (k : Work) (more : ℕ) (s : State) (m : ℕ) → nodes_at W c select ≡ Open m
      → selects sheet w h select (sort ∷ sorts) k more s ≡ Waits m s
  sorted_wait select sort sorts k more s m is = sorted_as select sort sorts k more s (Open m) is
