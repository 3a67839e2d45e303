-- The root contains all rows, and a list on the way of a growth is lawful.
use Rattle.std.proofs.Common.{◌≡◌, ℕ, zero, ◌<◌, ◌≤◌, true, false, List, [], ◌∷◌, length, None, refl, ap, sym, ◌∙◌, subst, arith, length-append}
use Rattle.std.proofs.lemmas.Bool.{false≢true}
use Rattle.doc_model.specs.declared.step.Step.{Step}
use Rattle.doc_model.specs.declared.step.Step.TheVariants.{Node, Shut, End}
use Rattle.doc_model.specs.Document.{Document, start, after, document_from, document_of, is_member, is_open}
use Rattle.doc_model.specs.Lawful.{Grows, IsJoined, AtStep, CanStep, LawfulFrom, IsLawful}
use Rattle.doc_model.specs.Relations.{extent_of}
use Rattle.doc_model.specs.Rows.{rows_of}
use Rattle.doc_laws.proofs.Growth.{document_is, prefix_rows}
use Rattle.doc_laws.proofs.Stack.{IsOpenAt, start_stack, open_grows, step_depths, stack_covers}
use Rattle.doc_laws.proofs.Ends.{IsReached, reached, reached_after, open_extent_is, shut_grows, lawful_split}

pub length_grows : (p q : List Step) → Grows p q → length (rows_of p) ≤ length (rows_of q)
length_grows p q g = let r = prefix_rows p q g in omega (arith, ap length (r.1), length-append (rows_of p) r.0)

-- all rows are in the root
root_join : (s : Document) (step : Step) → IsReached s → s.ended ≡ None → CanStep s step → IsOpenAt s.rows zero zero → IsOpenAt (after s step).rows zero zero
root_join s (Node row attributes) r g c h = open_grows s.rows (row ∷ attributes) 0 0 h (λ k l. let d = step_depths row attributes k c.carried l in omega (arith, d, c.depth, r.going g))
root_join s Shut r g c h = h
root_join s (End v) r g c h = h

root_from : (s : Document) (p : List Step) → IsReached s → LawfulFrom s p → IsOpenAt s.rows zero zero → IsOpenAt (document_from s p).rows zero zero
root_from s [] r l h = h
root_from s (x ∷ p) r l h = root_from (after s x) p (reached_after s x r l.1) l.2 (root_join s x r l.0 l.1 h)

pub root_at : (p : List Step) → LawfulFrom start p → IsOpenAt (rows_of p) zero zero
root_at p l = subst (λ (s : Document). IsOpenAt s.rows zero zero) (document_is p) (root_from start p (record { stack = start_stack; going = λ e. omega arith }) l start_stack.0)

pub root_extent : (p : List Step) → LawfulFrom start p → extent_of (rows_of p) 0 ≡ length (rows_of p)
root_extent p l = open_extent_is (rows_of p) zero zero (root_at p l)

-- where the root is shut, all is
pub root_shut : (p : List Step) (n : ℕ) → LawfulFrom start p → is_open p 0 ≡ false → is_open p n ≡ false
root_shut p n l h = go (document_of p).opened h (λ z. stack_covers (rows_of p) (document_of p).opened 0 (reached p l).stack (root_at p l).within (λ j a b. omega (arith, (root_at p l).depth, (root_at p l).below j a b)) (omega (arith, (root_at p l).depth, z)))
  where
    go : (os : List ℕ) → is_member 0 os ≡ false → (0 < length os → is_member 0 os ≡ true) → is_member n os ≡ false
    go [] m f = refl
    go (o ∷ os) m f = absurd (false≢true (sym m ∙ f (omega arith)))

-- a list on the way of a growth is lawful
pub lawful_before : (p q : List Step) → Grows p q → IsLawful q → IsLawful p
lawful_before p q g l = record { each = (lawful_split p (g.0) (subst (λ xs. LawfulFrom start xs) (sym (g.1)) l.each)).0; few = omega (arith, l.few, length_grows p q g) }

pub no_open_in_shut : (p q : List Step) (n : ℕ) → IsLawful q → IsJoined p 0 → is_open p 0 ≡ false → AtStep p q (λ s. is_open s n ≡ true) → ⊥
no_open_in_shut p q n l j z a =
    let w = lawful_before a.0 q a.2 l in
    let s = shut_grows p a.0 0 a.1 w j z in
    false≢true (sym (root_shut a.0 n w.each (s.0)) ∙ a.3)
