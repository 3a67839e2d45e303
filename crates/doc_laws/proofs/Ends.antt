-- Extents on every growth, and what an open row contains.
use Rattle.std.proofs.Common.{◌≡◌, ℕ, suc, ◌+◌, ◌<◌, ◌≤◌, Bool, true, false, cond, ◌||◌, eqb, ltb, List, [], ◌∷◌, ◌++◌, length, None, drop, refl, ap, sym, ◌∙◌, subst, arith, length-append, length-drop, get_or-drop, inl, inr}
use Rattle.std.proofs.lemmas.Bool.{cases_Bool, lt-ltb, eqb-true, ne_eqb, or_cases, false≢true}
use Rattle.doc_model.specs.declared.row.Row.{Row}
use Rattle.doc_model.specs.declared.step.Step.{Step}
use Rattle.doc_model.specs.declared.step.Step.TheVariants.{Node, Shut, End}
use Rattle.doc_model.specs.declared.step.Verdict.{Verdict}
use Rattle.doc_model.specs.declared.step.Verdict.TheVariants.{Good, Bad, Failed, Starved, Upstream}
use Rattle.doc_model.specs.Document.{Document, start, after, document_from, document_of, is_parent, is_member, is_open, tail_of, open_after}
use Rattle.doc_model.specs.Lawful.{Grows, IsJoined, CanStep, CanJoin, LawfulFrom, IsLawful}
use Rattle.doc_model.specs.Relations.{extent_of, deeper}
use Rattle.doc_model.specs.Rows.{rows_of, root_row, row_at}
use Rattle.doc_laws.proofs.Growth.{document_of-append, document_is}
use Rattle.doc_laws.proofs.Stack.{StackOf, IsOpenAt, start_stack, after_stack, stack_of}
use Rattle.doc_laws.proofs.Words.{extent_join}
use Rattle.doc_laws.proofs.Sound.{after_open}

pub LawfulFrom-split : (s : Document) (p q : List Step) → LawfulFrom s (p ++ q) → LawfulFrom s p × LawfulFrom (document_from s p) q
LawfulFrom-split s [] q l = (tt, l)
LawfulFrom-split s (x ∷ p) q l = let r = LawfulFrom-split (after s x) p q l.2 in ((l.0, l.1, r.0), r.1)

pub lawful_split : (p q : List Step) → LawfulFrom start (p ++ q) → LawfulFrom start p × LawfulFrom (document_of p) q
lawful_split p q l = let r = LawfulFrom-split start p q l in (r.0, subst (λ s. LawfulFrom s q) (document_is p) r.1)

LawfulFrom-push : (s : Document) (p : List Step) (x : Step) → LawfulFrom s p → (document_from s p).ended ≡ None → CanStep (document_from s p) x → LawfulFrom s (p ++ x ∷ [])
LawfulFrom-push s [] x l e c = (e, c, tt)
LawfulFrom-push s (y ∷ p) x l e c = (l.0, l.1, LawfulFrom-push (after s y) p x l.2 e c)

pub lawful_push : (p : List Step) (x : Step) → LawfulFrom start p → (document_of p).ended ≡ None → CanStep (document_of p) x → LawfulFrom start (p ++ x ∷ [])
lawful_push p x l e c = LawfulFrom-push start p x l e (subst (λ s. CanStep s x) (sym (document_is p)) c)

-- the states that are reached
pub record IsReached (s : Document) : Type 0 where
  pub stack : StackOf s.rows s.opened
  pub going : s.ended ≡ None → 0 < length s.opened

pub reached_after : (s : Document) (step : Step) → IsReached s → CanStep s step → IsReached (after s step)
reached_after s step r c = record { stack = after_stack s step r.stack c; going = after_open s step c r.going }

pub reached_from : (s : Document) (p : List Step) → IsReached s → LawfulFrom s p → IsReached (document_from s p)
reached_from s [] r l = r
reached_from s (x ∷ p) r l = reached_from (after s x) p (reached_after s x r l.1) l.2

pub reached : (p : List Step) → LawfulFrom start p → IsReached (document_of p)
reached p l = subst (λ s. IsReached s) (document_is p) (reached_from start p (record { stack = start_stack; going = λ e. omega arith }) l)

-- a closed row stays closed, with its extent
pub record IsClosed (s : Document) (n e : ℕ) : Type 0 where
  pub joined : n < length s.rows
  pub closed : is_member n s.opened ≡ false
  pub extent : extent_of s.rows n ≡ e

closed_join : (rows : List Row) (opened : List ℕ) (n : ℕ) (row : Row) (attributes : List Row) → StackOf rows opened → 0 < length opened → CanJoin opened row attributes → n < length rows → is_member n opened ≡ false
    → (is_member n (cond (is_parent row.kind) (length rows ∷ opened) opened) ≡ false) × (extent_of (rows ++ row ∷ attributes) n ≡ extent_of rows n)
closed_join rows [] n row attributes s z c l m = absurd (omega arith)
closed_join rows (o ∷ os) n row attributes s z c l m = (
  elim (cases_Bool (is_parent row.kind)) [
    | inl e ↦ rw e (ap (λ b. b || is_member n (o ∷ os)) (ne_eqb n (length rows) (λ q. omega arith)) ∙ m)
    | inr e ↦ rw e m
  ],
  extent_join rows o os row attributes s c n l m,
)

tail_closed : (os : List ℕ) (n : ℕ) → is_member n os ≡ false → is_member n (tail_of os) ≡ false
tail_closed [] n h = refl
tail_closed (o ∷ os) n h = elim (cases_Bool (is_member n os)) [ inr e ↦ e | inl e ↦ absurd (false≢true (sym h ∙ right (eqb n o) (is_member n os) e)) ]
  where
    right : (a b : Bool) → b ≡ true → (a || b) ≡ true
    right true b e = refl
    right false b e = e

end_closed : (v : Verdict) (os : List ℕ) (n : ℕ) → is_member n os ≡ false → is_member n (open_after v os) ≡ false
end_closed Good os n h = refl
end_closed (Bad f) os n h = h
end_closed Failed os n h = h
end_closed Starved os n h = h
end_closed Upstream os n h = h

pub closed_after : (s : Document) (step : Step) (n e : ℕ) → IsReached s → s.ended ≡ None → CanStep s step → IsClosed s n e → IsClosed (after s step) n e
closed_after s (Node row attributes) n e r g c h =
    let j = closed_join s.rows s.opened n row attributes r.stack (r.going g) c h.joined h.closed in
    record { joined = omega (arith, length-append s.rows (row ∷ attributes), h.joined); closed = j.0; extent = j.1 ∙ h.extent }
closed_after s Shut n e r g c h = record { joined = h.joined; closed = tail_closed s.opened n h.closed; extent = h.extent }
closed_after s (End v) n e r g c h = record { joined = h.joined; closed = end_closed v s.opened n h.closed; extent = h.extent }

pub closed_from : (s : Document) (p : List Step) (n e : ℕ) → IsReached s → LawfulFrom s p → IsClosed s n e → IsClosed (document_from s p) n e
closed_from s [] n e r l h = h
closed_from s (x ∷ p) n e r l h = closed_from (after s x) p n e (reached_after s x r l.1) l.2 (closed_after s x n e r l.0 l.1 h)

-- a shut row on every growth
pub shut_grows : (p q : List Step) (n : ℕ) → Grows p q → IsLawful q → IsJoined p n → is_open p n ≡ false → (is_open q n ≡ false) × (extent_of (rows_of q) n ≡ extent_of (rows_of p) n)
shut_grows p q n g l j c =
    let split = lawful_split p (g.0) (subst (λ xs. LawfulFrom start xs) (sym (g.1)) l.each) in
    let r = closed_from (document_of p) (g.0) n (extent_of (rows_of p) n) (reached p (split.0)) (split.1) (record { joined = j; closed = c; extent = refl }) in
    let e : document_from (document_of p) (g.0) ≡ document_of q = sym (document_of-append p (g.0)) ∙ ap document_of (g.1) in
    let t = subst (λ s. IsClosed s n (extent_of (rows_of p) n)) e r in
    (t.closed, t.extent)

pub deeper_le : (d : ℕ) (rows : List Row) → deeper d rows ≤ length rows
deeper_le d [] = omega arith
deeper_le d (r ∷ rows) = let h = deeper_le d rows in elim (cases_Bool (ltb d r.depth)) [ inl e ↦ rw e (omega arith) | inr e ↦ rw e (omega arith) ]

pub extent_le : (rows : List Row) (n : ℕ) → n < length rows → extent_of rows n ≤ length rows
extent_le rows n l = omega (arith, deeper_le (row_at rows n).depth (drop (suc n) rows), length-drop (suc n) rows)

deeper_all : (d : ℕ) (rows : List Row) → ((k : ℕ) → k < length rows → d < (row_at rows k).depth) → deeper d rows ≡ length rows
deeper_all d [] h = refl
deeper_all d (r ∷ rows) h = ap (λ b. cond b (suc (deeper d rows)) 0) (lt-ltb d r.depth (h 0 (omega arith))) ∙ ap suc (deeper_all d rows (λ k l. h (suc k) (omega arith)))

-- an open row has all later rows in it
pub open_extent_is : (rows : List Row) (o d : ℕ) → IsOpenAt rows o d → extent_of rows o ≡ length rows
open_extent_is rows o d s =
    let h : deeper (row_at rows o).depth (drop (suc o) rows) ≡ length (drop (suc o) rows) = deeper_all _ (drop (suc o) rows) (λ k l.
    let b = s.below (suc o + k) (omega arith) (omega (arith, length-drop (suc o) rows)) in
    rw (get_or-drop (suc o) rows k root_row) (omega (arith, b, s.depth))) in
    ap (λ k. suc o + k) h ∙ omega (arith, length-drop (suc o) rows, s.within)

member_open : (rows : List Row) (os : List ℕ) (k : ℕ) → StackOf rows os → is_member k os ≡ true → extent_of rows k ≡ length rows
member_open rows [] k s h = absurd (false≢true h)
member_open rows (o ∷ os) k s h = elim (or_cases (eqb k o) (is_member k os) h) [
  | inl e ↦ rw (eqb-true k o e) (open_extent_is rows o (length os) s.0)
  | inr t ↦ member_open rows os k s.1 t
]

pub open_contains : (p : List Step) (k : ℕ) → LawfulFrom start p → is_open p k ≡ true → extent_of (rows_of p) k ≡ length (rows_of p)
open_contains p k l o = member_open (rows_of p) (document_of p).opened k (stack_of p l) o
