-- Levels of elements.
use Rattle.std.proofs.Common.{◌≡◌, refl, subst, ℕ, zero, suc, ◌-◌, arith, List, Result, Err}
use Rattle.xml_names.specs.declared.scopes.Binding.{Binding}
use Rattle.sheet_elements.specs.declared.fault.SheetKind.TheVariants as kind
use Rattle.sheet_elements.specs.declared.places.Place.{Place}
use Rattle.sheet_source.specs.declared.tree.Element.{Element}
use Rattle.sheet_reading.specs.declared.stop.ReadStop.{ReadStop}
use Rattle.sheet_reading.specs.declared.stop.ReadStop.TheVariants.{Refused}
use Rattle.sheet_reading.specs.declared.tree.Judged.{Judged}
use Rattle.sheet_reading.specs.Judgement.{Answers, fault}
use Rattle.sheet_reading.specs.Elements.{judged, layer}

pub no_level : (levels : ℕ) (around : List (List Binding)) (p : Place) (e : Element) → levels ≡ 0 → Answers (judged levels around p e) (Err (Refused (fault e.start.line kind.SheetTooDeep)))
unfolding judged
no_level zero around p e h = refl
no_level (suc n) around p e h = absurd (omega arith)

pub one_level : (levels : ℕ) (around : List (List Binding)) (p : Place) (e : Element) (r : Result Judged ReadStop) → (levels ≡ 0 → ⊥) → Answers (layer (judged (levels - 1)) around p e) r
    → Answers (judged levels around p e) r
unfolding judged
one_level zero around p e r h a = absurd (h refl)
one_level (suc n) around p e r h a = let i : suc n - 1 ≡ n = omega arith in subst (λ k. Answers (layer (judged k) around p e) r) i a
