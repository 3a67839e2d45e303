-- What is known once the root is shut, where no key is declared and no attributes are IDs.
use Rattle.std.proofs.Common.{◌≡◌, refl, ap, ℕ, suc, List, [], ◌∷◌, Bool, true, false, cond, None}
use Rattle.doc_model.specs.declared.step.Step.{Step}
use Rattle.doc_model.specs.declared.strip_rule.StripRule.{StripRule}
use Rattle.doc_model.specs.Answers.{Answer, Known, Open, with_faults}
use Rattle.doc_model.specs.Document.{is_open}
use Rattle.doc_model.specs.Rows.{rows_of}
use Rattle.fault_kinds.specs.declared.fault.FaultKind.{FaultKind}
use Rattle.xpath_meaning.specs.Keys.{declarations, has_string, visible_rows}
use Rattle.xpath_meaning.specs.Outcome.{Outcome, ◌>>=◌, kept_from}
use Rattle.xpath_meaning.specs.Reading.{Reading}
use Rattle.xpath_meaning.specs.Readings.{reading_of, reading_without_keys}
use Rattle.key_sources.specs.Going.{Lookups, reading_by}

pub whole_shut : (lookups : Lookups) (rules : List StripRule) (steps : List Step) → is_open steps 0 ≡ false → (reading_by lookups rules steps).whole ≡ Known tt
unfolding reading_of
whole_shut lookups rules steps e = ap (λ b. with_faults {F = FaultKind} (cond b (Open 0) (Known tt))) e

pub whole_open : (lookups : Lookups) (rules : List StripRule) (steps : List Step) → is_open steps 0 ≡ true → (reading_by lookups rules steps).whole ≡ Open 0
unfolding reading_of
whole_open lookups rules steps e = ap (λ b. with_faults {F = FaultKind} (cond b (Open 0) (Known tt))) e

-- for what is made of the rows once the root is shut
abbrev shut_or : {A : Type 0} → Bool → A → Answer ⊥ A
shut_or b x = cond b (Open 0) (Known x)

once : {A B : Type 0} (b : Bool) (x : A) (y : B) (f : A → Outcome B) → f x ≡ Known y
    → (with_faults {F = FaultKind} {A = A} (shut_or b x) >>= f) ≡ (with_faults {F = FaultKind} {A = Unit {0}} (shut_or b tt) >>= λ shut. Known y)
once true x y f e = refl
once false x y f e = e

once_alone : {A : Type 0} (b : Bool) (x : A) → with_faults {F = FaultKind} {A = A} (shut_or b x) ≡ (with_faults {F = FaultKind} {A = Unit {0}} (shut_or b tt) >>= λ shut. Known x)
once_alone true x = refl
once_alone false x = refl

none_kept : (R : Reading) (value : List ℕ) (at : ℕ) (ns : List ℕ) → kept_from at (λ k n. has_string R [] value n) ns ≡ Known []
none_kept R value at [] = refl
none_kept R value at (n ∷ ns) = ap (λ o. o >>= λ rest. Known rest) (none_kept R value (suc at) ns)

pub no_key : (rules : List StripRule) (steps : List Step) (key : ℕ) (value : List ℕ) → (reading_of rules [] None steps).by_key key value ≡ ((reading_of rules [] None steps).whole >>= λ shut. Known [])
unfolding reading_of
no_key rules steps key value =
    let rows = visible_rows rules (rows_of steps) in
    once (is_open steps 0) rows [] (λ ns. kept_from 0 (λ at n. has_string (reading_without_keys rules None steps) (declarations [] key) value n) ns)
    (none_kept (reading_without_keys rules None steps) value 0 rows)

pub no_id : (rules : List StripRule) (steps : List Step) (value : List ℕ) → (reading_of rules [] None steps).by_id value ≡ ((reading_of rules [] None steps).whole >>= λ shut. Known [])
unfolding reading_of
no_id rules steps value = once_alone (is_open steps 0) []
