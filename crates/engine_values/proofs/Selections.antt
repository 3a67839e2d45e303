-- What is found for a select stands for it.
use Rattle.std.proofs.Common.{◌≡◌, refl, sym, ap, ◌∙◌, subst, ℕ, ◌<◌, List, [], ◌∷◌, ◌==◌, length, true, false, Option, None, Result, Ok, Err}
use Rattle.std.specs.Borrow.{Bor}
use Rattle.std.specs.Prelude.{IsErrAnd, MatchOption}
use Rattle.doc_model.specs.Answers as answer
use Rattle.doc_model.specs.declared.step.Step.{Step}
use Rattle.engine_core.proofs.Asking.{Hears, still_known}
use Rattle.engine_core.specs.Holding.{Scene, there, world_at}
use Rattle.engine_core.specs.Standing.{stand_of}
use Rattle.engine_core.specs.declared.state.Core.{Core}
use Rattle.engine_laws.proofs.Asking.{nodes_stay}
use Rattle.engine_meaning.specs.Places.{World}
use Rattle.engine_meaning.specs.Questions.{nodes_at}
use Rattle.engine_meaning.specs.Runs.{State, Faulted, Waits}
use Rattle.engine_questions.specs.Walks.{is_streamed}
use Rattle.engine_values.specs.Finding.{FindsSelection, IsSelection, whole_frame}
use Rattle.engine_values.specs.declared.selection.Selection.{Selection}
use Rattle.engine_values.specs.declared.selection.Selection.TheVariants as selection
use Rattle.fault_kinds.specs.declared.fault.FaultKind.{FaultKind}
use Rattle.frame_meaning.proofs.Selecting.{nodes_fail, nodes_select, nodes_wait, sorted_fail, sorted_select, sorted_wait}
use Rattle.frame_meaning.specs.Selects.{selects}
use Rattle.frame_meaning.specs.Stand.{setting_at}
use Rattle.frame_meaning.specs.Work.{frame_does}
use Rattle.frames.specs.declared.parts.Work.{Work}
use Rattle.sheet_ast.specs.declared.instruction.SortDecl.{SortDecl}
use Rattle.xpath_laws.specs.Sound.{Each}
use Rattle.xpath_meaning.specs.Outcome.{Outcome}
use Rattle.xpath_meaning.specs.declared.stop.EvalStop.{EvalStop}
use Rattle.xpath_meaning.specs.declared.stop.EvalStop.TheVariants.{NotYet, Fault, Memory}
use Rattle.xpath_syntax.specs.declared.expression.Expr.{Expr}

-- the nodes of a select, by what is seen
abbrev pub at_nodes : {S : Type 0} → Core S → Expr → World → Outcome (List ℕ)
at_nodes m select u = nodes_at (setting_at m.sheet.now u (stand_of m)) (stand_of m).place select

module _ (select : Expr) where
  -- these sorts aren't none, or the select isn't one whose nodes may be taken one by one
  abbrev pub TakenWhole : List SortDecl → Type 0
  TakenWhole sorts = sorts ≡ [] → is_streamed select ≡ false

  pub has_sorts : (sorts : List SortDecl) → false ≡ (length sorts == 0) → TakenWhole sorts
  has_sorts sorts some none = absurd (let no : false ≡ true = some ∙ ap (λ (l : List SortDecl). length l == 0) none in cc)

  pub has_no_stream : {S : Type 0} (sorts : List SortDecl) (found : Option S) → MatchOption found (is_streamed select ≡ false) (λ stream. is_streamed select ≡ true) → found ≡ None
      → TakenWhole sorts
  has_no_stream sorts found told none = λ _. subst (λ o. MatchOption o (is_streamed select ≡ false) (λ stream. is_streamed select ≡ true)) none told

module _ {S : Type 0} (z : Scene S) (before later : List Step) (m : Core S) (select : Bor Expr) (sorts : Bor (List SortDecl)) where
  fails_so : (l : List SortDecl) → TakenWhole select.now l → (u : World) (e : FaultKind) → at_nodes m select.now u ≡ answer.Fault e → (k : Work) (more : ℕ) (s : State)
      → selects m.sheet.now u (stand_of m) select.now l k more s ≡ Faulted e s
  fails_so [] whole u e a k more s = nodes_fail m.sheet.now u (stand_of m) select.now k more s e (whole refl) a
  fails_so (sort ∷ others) whole u e a k more s = sorted_fail m.sheet.now u (stand_of m) select.now sort others k more s e a

  waits_so : (l : List SortDecl) → TakenWhole select.now l → (u : World) (n : ℕ) → at_nodes m select.now u ≡ answer.Open n → (k : Work) (more : ℕ) (s : State)
      → selects m.sheet.now u (stand_of m) select.now l k more s ≡ Waits n s
  waits_so [] whole u n a k more s = nodes_wait m.sheet.now u (stand_of m) select.now k more s n (whole refl) a
  waits_so (sort ∷ others) whole u n a k more s = sorted_wait m.sheet.now u (stand_of m) select.now sort others k more s n a

  does_so : (l : List SortDecl) → TakenWhole select.now l → sorts.now ≡ l → (u : World) (nodes : List ℕ) → at_nodes m select.now u ≡ answer.Known nodes → (k : Work) (more : ℕ) (s : State)
      → frame_does (whole_frame nodes sorts l k m.context) m.sheet.now u more (stand_of m) s ≡ selects m.sheet.now u (stand_of m) select.now l k more s
  does_so [] whole has u nodes a k more s = nodes_select m.sheet.now u (stand_of m) select.now k more s nodes (whole refl) a
  does_so (sort ∷ others) whole has u nodes a k more s =
      sorted_select m.sheet.now u (stand_of m) select.now sorts sort others k more s nodes has a ∙ ap (λ l. selects m.sheet.now u (stand_of m) select.now l k more s) has

  stop_of_nodes : TakenWhole select.now sorts.now → (x : EvalStop) → Hears {A = List ℕ} z before later (at_nodes m select.now) (Err x) → FindsSelection z before later m select sorts (Err x)
  stop_of_nodes whole (Fault e) a = fails_so sorts.now whole (world_at z later) e a
  stop_of_nodes whole (NotYet n) a = (a.0, a.1, a.2, waits_so sorts.now whole (world_at z a.0) n a.3)
  stop_of_nodes whole Memory a = tt

  -- why no nodes were found, handed on by `?`
  pub nodes_stop : TakenWhole select.now sorts.now → (x : EvalStop) (r : Result (Selection S) EvalStop) → Hears {A = List ℕ} z before later (at_nodes m select.now) (Err x) → IsErrAnd r (λ y. y ≡ x)
      → FindsSelection z before later m select sorts r
  nodes_stop whole x (Ok y) a is = absurd is
  nodes_stop whole x (Err y) a is = subst (λ y. FindsSelection z before later m select sorts (Err y)) (sym is) (stop_of_nodes whole x a)

  pub nodes_found : TakenWhole select.now sorts.now → (nodes : List ℕ) → at_nodes m select.now (world_at z later) ≡ answer.Known nodes → Each (there z later) nodes → length nodes < 4294967296
      → IsSelection z later m select sorts (selection.Nodes nodes)
  nodes_found whole nodes a t few = record {
    there = (t, few);
    left = λ k more s w y. does_so sorts.now whole refl w nodes (still_known _ _ nodes a (nodes_stay m.sheet.now m.globals (world_at z later) w y (stand_of m).place select.now)) k more s;
  }
