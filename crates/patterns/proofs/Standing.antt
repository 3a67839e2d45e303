-- What is read of the parent and the ancestors of a row that is there.
use Rattle.std.proofs.Common.{◌≡◌, sym, ap, ◌∙◌, subst, ℕ, List, [], ◌∷◌, length, Bool, true, false, cond, ltb, Option, Some, None, Result, Ok, Err, inl, inr}
use Rattle.std.proofs.lemmas.Bool.{cases_Bool, lt-ltb, ltb-true}
use Rattle.doc_model.specs.declared.node_test.Test.TheVariants as test
use Rattle.doc_model.specs.declared.row.Axis.TheVariants as axis
use Rattle.doc_model.specs.declared.step.Step.{Step}
use Rattle.doc_model.specs.declared.strip_rule.StripRule.{StripRule}
use Rattle.doc_model.specs.Answers as answer
use Rattle.doc_model.specs.Answers.{Known, Fault, Open, with_faults, once_shut}
use Rattle.doc_model.specs.Axes.{axis_rows}
use Rattle.doc_model.specs.Lawful.{Grows, IsLawful, IsJoined}
use Rattle.doc_model.specs.Relations.{parent_of}
use Rattle.doc_model.specs.Rows.{rows_of, row_at}
use Rattle.doc_model.specs.Strip.{is_visible}
use Rattle.doc_model.specs.View.{Seen, Moves}
use Rattle.doc_laws.proofs.Growth.{joined_grows, prefix_rows, row_at_grows, parent_grows}
use Rattle.doc_laws.proofs.Links.{parent_before}
use Rattle.doc_laws.proofs.Root.{lawful_before}
use Rattle.doc_laws.proofs.Sound.{lawful_tree}
use Rattle.doc_laws.proofs.Visible.{visible_grows}
use Rattle.axis_walkers.proofs.Facts.{parent_visible}
use Rattle.fault_kinds.specs.declared.fault.FaultKind.{FaultKind}
use Rattle.key_sources.specs.Going.{Lookups, reading_by, Says}
use Rattle.xpath_laws.specs.Sound.{IsThere}
use Rattle.xpath_laws.proofs.Short.{dots_are, no_dots}
use Rattle.xpath_meaning.specs.declared.stop.EvalStop.{EvalStop}
use Rattle.xpath_meaning.specs.declared.stop.EvalStop.TheVariants as stop
use Rattle.xpath_meaning.specs.Outcome.{Outcome}
use Rattle.xpath_meaning.specs.Reading.{Reading}
use Rattle.xpath_meaning.specs.Readings.{reading_of}
use Rattle.xpath_meaning.specs.Stops.{stop_of}

-- ---- the same meaning in words that hold at what a view has seen and at every lawful growth

pub says_grown : {M A : Type 0} {lookups : Lookups} {means other : Reading → Outcome A} {s t : Seen M} {result : Result A EvalStop}
    → Moves s t → ((steps : List Step) → Grows s.steps steps → IsLawful steps → other (reading_by lookups s.rules steps) ≡ means (reading_by lookups s.rules steps))
    → Says lookups means s t result → Says lookups other s t result
says_grown {M} {A} {lookups = lookups} {means} {other} {s} {t} {result} m h a = record { answers = by result a.answers }
  where
    same : (steps : List Step) → Grows s.steps steps → IsLawful steps → other (reading_by lookups t.rules steps) ≡ means (reading_by lookups t.rules steps)
    same steps g l = subst (λ rules. other (reading_by lookups rules steps) ≡ means (reading_by lookups rules steps)) (sym m.rules_stay) (h steps g l)

    by : (r : Result A EvalStop) → answer.Answers stop_of (λ rules steps. means (reading_by lookups rules steps)) s t r
        → answer.Answers stop_of (λ rules steps. other (reading_by lookups rules steps)) s t r
    by (Ok y) e = same t.steps m.grows m.seen.lawful ∙ e
    by (Err (stop.Fault fault)) e = same t.steps m.grows m.seen.lawful ∙ e
    by (Err (stop.NotYet row)) e = (e.0, e.1, e.2, same (e.0) e.1 (lawful_before (e.0) t.steps e.2 m.seen.lawful) ∙ e.3)
    by (Err stop.Memory) e = tt

-- what is known at the end of a call
pub says_at : {M A : Type 0} {lookups : Lookups} {means : Reading → Outcome A} {s t : Seen M} {x : A} → means (reading_by lookups t.rules t.steps) ≡ Known x → Says lookups means s t (Ok x)
says_at e = record { answers = e }

-- ---- rows that are there, at growths

pub there_grows : (rules : List StripRule) (before later : List Step) (n : ℕ) → Grows before later → IsThere rules before n → IsThere rules later n
there_grows rules before later n g w =
    let r = prefix_rows before later g in
    (joined_grows before later n g w.0, ap (λ rows. is_visible rules rows n) r.1 ∙ visible_grows rules (rows_of before) (r.0) n w.0 ∙ w.1)

pub parent_later : (before later : List Step) (n : ℕ) (o : Option ℕ) → Grows before later → IsJoined before n → parent_of (rows_of before) n ≡ o → parent_of (rows_of later) n ≡ o
parent_later before later n o g j e = let r = prefix_rows before later g in ap (λ rows. parent_of rows n) r.1 ∙ parent_grows (rows_of before) (r.0) n j ∙ e

pub row_later : (before later : List Step) (n : ℕ) → Grows before later → IsJoined before n → row_at (rows_of later) n ≡ row_at (rows_of before) n
row_later before later n g j = let r = prefix_rows before later g in ap (λ rows. row_at rows n) r.1 ∙ row_at_grows (rows_of before) (r.0) n j

pub parent_there : (rules : List StripRule) (steps : List Step) (n m : ℕ) → IsLawful steps → IsJoined steps n → parent_of (rows_of steps) n ≡ Some m → IsThere rules steps m
parent_there rules steps n m l j p = ((parent_before (rows_of steps) n m p).1, parent_visible rules (rows_of steps) n m (lawful_tree steps l.each) j p)

-- ---- what is read of them

pub parent_read : (lookups : Lookups) (rules : List StripRule) (steps : List Step) (n m : ℕ) → IsThere rules steps n → parent_of (rows_of steps) n ≡ Some m
    → (reading_by lookups rules steps).axis axis.Parent test.Any n ≡ Known (m ∷ [])
parent_read lookups rules steps n m w p = dots_are rules lookups.keys lookups.id steps n m w p

pub no_parent_read : (lookups : Lookups) (rules : List StripRule) (steps : List Step) (n : ℕ) → IsThere rules steps n → parent_of (rows_of steps) n ≡ None
    → (reading_by lookups rules steps).axis axis.Parent test.Any n ≡ Known []
no_parent_read lookups rules steps n w p = no_dots rules lookups.keys lookups.id steps n w p

abbrev ancestors_if : Bool → List ℕ → ℕ → Outcome (List ℕ)
ancestors_if joined rows n = with_faults {F = FaultKind} (cond joined (Known rows) (Open n))

ancestors_read : (lookups : Lookups) (rules : List StripRule) (steps : List Step) (n : ℕ) (b : Bool) → ltb n (length (rows_of steps)) ≡ b
    → (reading_by lookups rules steps).axis axis.Ancestor test.Any n ≡ ancestors_if b (axis_rows rules (rows_of steps) n axis.Ancestor test.Any) n
unfolding reading_of
ancestors_read lookups rules steps n b e = ap (λ joined. ancestors_if joined (axis_rows rules (rows_of steps) n axis.Ancestor test.Any) n) e

pub ancestors_are : (lookups : Lookups) (rules : List StripRule) (steps : List Step) (n : ℕ) → IsJoined steps n
    → (reading_by lookups rules steps).axis axis.Ancestor test.Any n ≡ Known (axis_rows rules (rows_of steps) n axis.Ancestor test.Any)
ancestors_are lookups rules steps n j = ancestors_read lookups rules steps n true (lt-ltb n (length (rows_of steps)) j)

-- ancestors are known of rows that are there alone
pub ancestors_joined : (lookups : Lookups) (rules : List StripRule) (steps : List Step) (n : ℕ) (above : List ℕ) → (reading_by lookups rules steps).axis axis.Ancestor test.Any n ≡ Known above
    → IsJoined steps n
ancestors_joined lookups rules steps n above e = elim (cases_Bool (ltb n (length (rows_of steps)))) [
  | inl b ↦ ltb-true n (length (rows_of steps)) b
  | inr b ↦ absurd (let no : ancestors_if false (axis_rows rules (rows_of steps) n axis.Ancestor test.Any) n ≡ Known above = sym (ancestors_read lookups rules steps n false b) ∙ e in cc)
]
