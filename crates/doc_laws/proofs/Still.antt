-- On a table that stands still every answer is exact, and nothing follows an End.
use Rattle.std.proofs.Common.{◌≡◌, ℕ, true, false, cond, List, [], ◌∷◌, ◌++◌, length, Option, Some, None, refl, ap, sym, ◌∙◌, subst, arith, length-append, append-nil}
use Rattle.doc_model.specs.declared.look.Look.{Look}
use Rattle.doc_model.specs.declared.look.Look.TheVariants.{Node, Nothing, NotYet}
use Rattle.doc_model.specs.declared.row.Row.{Row}
use Rattle.doc_model.specs.declared.step.Step.{Step}
use Rattle.doc_model.specs.declared.step.Verdict.{Verdict}
use Rattle.doc_model.specs.Document.{Document, start, document_of, is_open}
use Rattle.doc_model.specs.Lawful.{LawfulFrom, IsLawful, Grows, AtStep}
use Rattle.doc_model.specs.Relations.{extent_of}
use Rattle.doc_model.specs.Rows.{rows_of}
use Rattle.doc_model.specs.View.{is_settled, LinkIs, ExtentIs, EndedIs}
use Rattle.doc_laws.specs.Still.{look_of, known_extent}
use Rattle.doc_laws.proofs.Ends.{lawful_split}

none_long : (xs : List Step) → length xs ≡ 0 → xs ≡ []
none_long [] h = refl
none_long (x ∷ xs) h = absurd (omega arith)

pub Grows-antisym : (p q : List Step) → Grows p q → Grows q p → q ≡ p
Grows-antisym p q g h =
    let a = ap length g.1 in
    let b = ap length h.1 in
    let none : g.0 ≡ [] = none_long g.0 (omega (arith, a, b, length-append p g.0, length-append q h.0)) in
    sym g.1 ∙ ap (λ xs. p ++ xs) none ∙ append-nil p

pub at_still : (p : List Step) (P : List Step → Type 0) → AtStep p p P → P p
at_still p P a = subst P (Grows-antisym p (a.0) a.1 a.2) a.3

pub link_still : (link decider : List Row → Option ℕ) (p : List Step) (look : Look) → LinkIs link decider p p look → look ≡ look_of (link (rows_of p)) (is_settled p (decider (rows_of p)))
link_still link decider p (Node k) h = sym (ap (λ o. look_of o (is_settled p (decider (rows_of p)))) h)
link_still link decider p Nothing h = sym (ap (λ o. look_of o (is_settled p (decider (rows_of p)))) h.0 ∙ ap (look_of None) h.1)
link_still link decider p NotYet h =
    let s = at_still p (λ q. (link (rows_of q) ≡ None) × (is_settled q (decider (rows_of q)) ≡ false)) h in
    sym (ap (λ o. look_of o (is_settled p (decider (rows_of p)))) s.0 ∙ ap (look_of None) s.1)

pub extent_still : (p : List Step) (n : ℕ) (extent : Option ℕ) → ExtentIs p p n extent → extent ≡ known_extent p n
extent_still p n None h = sym (ap (λ b. cond b None (Some (extent_of (rows_of p) n))) (at_still p (λ q. is_open q n ≡ true) h))
extent_still p n (Some e) h = ap (λ k. Some k) h.1 ∙ sym (ap (λ b. cond b None (Some (extent_of (rows_of p) n))) h.0)

pub ended_still : (p : List Step) (verdict : Option Verdict) → EndedIs p p verdict → verdict ≡ (document_of p).ended
ended_still p None h = sym (at_still p (λ q. (document_of q).ended ≡ None) h)
ended_still p (Some v) h = sym h

pub ended_stays : (p q : List Step) (v : Verdict) → Grows p q → IsLawful q → (document_of p).ended ≡ Some v → q ≡ p
ended_stays p q v g l h =
    let split = lawful_split p (g.0) (subst (λ xs. LawfulFrom start xs) (sym (g.1)) l.each) in
    sym g.1 ∙ ap (λ xs. p ++ xs) (none_more (document_of p) (g.0) split.1 h) ∙ append-nil p
  where
    none_more : (s : Document) (rest : List Step) → LawfulFrom s rest → s.ended ≡ Some v → rest ≡ []
    none_more s [] l h = refl
    none_more s (x ∷ rest) l h = absurd (let e : None ≡ Some v = sym l.0 ∙ h in cc)
