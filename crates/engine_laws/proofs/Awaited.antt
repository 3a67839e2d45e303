-- What a stylesheet waits for.
use Rattle.std.proofs.Common.{◌≡◌, refl, sym, ◌∙◌, subst, ℕ, List, Option, Some, None, true, false, Bool, cond, length}
use Rattle.std.proofs.lemmas.Bool.{false≢true, lt-ltb}
use Rattle.copy_meaning.specs.Copies.{copy_of, copy_need, copy_in}
use Rattle.doc_model.specs.declared.step.Step.{Step}
use Rattle.doc_model.specs.declared.strip_rule.StripRule.{StripRule}
use Rattle.doc_model.specs.Answers.{Known, Open, with_faults, once_shut}
use Rattle.doc_model.specs.Document.{is_open}
use Rattle.doc_model.specs.Lawful.{IsComplete}
use Rattle.doc_model.specs.Rows.{rows_of}
use Rattle.doc_laws.proofs.Whole.{whole_is_shut}
use Rattle.result_events.specs.declared.event.ResultEvent.{ResultEvent}
use Rattle.sheet_ast.specs.declared.sheet.Sheet.{Sheet}
use Rattle.xpath_meaning.specs.Readings.{reading_of}
use Rattle.xpath_laws.specs.Sound.{Tells, Anything, IsReading, IsThere, IsOpen}
use Rattle.engine_meaning.specs.Meaning.{meaning_of, sheet_world, strip_rules_of, at_first}
use Rattle.engine_meaning.specs.Runs.{State, Waits}
use Rattle.engine_laws.proofs.Safely.{Leaves}
use Rattle.engine_laws.proofs.Told.{IsWorld}
use Rattle.engine_laws.proofs.Safe.{transforms_safe}

by_open : (steps : List Step) (m : ℕ) (events : List ResultEvent) (b : Bool) → is_open steps m ≡ b → Tells (IsOpen steps) Anything (with_faults (cond b (Open m) (Known events)))
by_open steps m events true e = e
by_open steps m events false e = tt

by_need : (steps : List Step) (need : Option ℕ) (events : List ResultEvent) → Tells (IsOpen steps) Anything (with_faults (once_shut steps need events))
by_need steps None events = tt
by_need steps (Some m) events = by_open steps m events (is_open steps m) refl

-- a copy waits only for a row that is open
copy_told : (rules : List StripRule) (steps : List Step) (n : ℕ) → IsThere rules steps n → Tells (IsOpen steps) Anything (with_faults (copy_of rules steps n))
copy_told rules steps n t =
    subst (λ b. Tells (IsOpen steps) Anything (with_faults (cond b (once_shut steps (copy_need (rows_of steps) n) (copy_in rules (rows_of steps) n)) (Open n))))
    (sym (lt-ltb n (length (rows_of steps)) t.0))
    (by_need steps (copy_need (rows_of steps) n) (copy_in rules (rows_of steps) n))

module _ (sheet : Sheet) (order : List ℕ) (id : Option (List ℕ)) (steps : List Step) where
  abbrev Read : Type 0
  Read = IsReading (IsThere (strip_rules_of sheet) steps) (IsOpen steps) (reading_of (strip_rules_of sheet) sheet.keys id steps)

  world_told : Read → IsWorld (IsThere (strip_rules_of sheet) steps) (IsOpen steps) (sheet_world sheet id steps)
  world_told x = record { reading = x; copy = copy_told (strip_rules_of sheet) steps }

  pub waits_for_open : (budget m : ℕ) (s : State) → Read → meaning_of sheet order id steps budget ≡ Waits m s → is_open steps m ≡ true
  unfolding meaning_of
  waits_for_open budget m s x e =
      subst (Leaves (IsOpen steps) Anything) e ((transforms_safe (IsThere (strip_rules_of sheet) steps) (IsOpen steps) sheet (sheet_world sheet id steps) (world_told x) order).runs (at_first budget))

  pub whole_waits_for_none : (budget m : ℕ) (s : State) → Read → IsComplete steps → meaning_of sheet order id steps budget ≡ Waits m s → ⊥
  whole_waits_for_none budget m s x w e = false≢true (sym (whole_is_shut steps m w) ∙ waits_for_open budget m s x e)
