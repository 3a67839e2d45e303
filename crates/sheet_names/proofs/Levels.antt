-- Levels of elements.
use Rattle.std.proofs.Common.{◌≡◌, refl, subst, ℕ, zero, suc, ◌-◌, arith, List, Result, Err}
use Rattle.sheet_elements.specs.declared.fault.SheetKind.TheVariants as kind
use Rattle.sheet_reading.specs.declared.stop.ReadStop.{ReadStop}
use Rattle.sheet_reading.specs.declared.stop.ReadStop.TheVariants.{Refused}
use Rattle.sheet_reading.specs.declared.tree.Judged.{Judged}
use Rattle.sheet_reading.specs.Judgement.{Answers, fault}
use Rattle.sheet_names.specs.declared.declaring.Names.{Names}
use Rattle.sheet_names.specs.Judging.{checked, layer}
use Rattle.sheet_names.specs.Names.{Name}

pub no_level : (levels : ℕ) (names : Names) (locals : List Name) (e : Judged) → levels ≡ 0 → Answers (checked levels names locals e) (Err (Refused (fault e.line kind.SheetTooDeep)))
unfolding checked
no_level zero names locals e h = refl
no_level (suc n) names locals e h = absurd (omega arith)

pub one_level : (levels : ℕ) (names : Names) (locals : List Name) (e : Judged) (r : Result (Unit {0}) ReadStop) → (levels ≡ 0 → ⊥)
    → Answers (layer (checked (levels - 1) names) names locals e) r → Answers (checked levels names locals e) r
unfolding checked
one_level zero names locals e r h a = absurd (h refl)
one_level (suc n) names locals e r h a = let i : suc n - 1 ≡ n = omega arith in subst (λ k. Answers (layer (checked k names) names locals e) r) i a
