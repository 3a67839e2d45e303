-- What a step does to the words.
use Rattle.std.proofs.Common.{◌≡◌, ℕ, suc, ◌≤◌, cond, List, [], ◌∷◌, ◌++◌, length, Option, Some, None, take, drop, set, map, refl, ap, sym, ◌∙◌, subst, arith, length-set}
use Rattle.std.proofs.lemmas.List.{map-append}
use Rattle.doc_model.specs.declared.row.Row.{Row}
use Rattle.doc_model.specs.declared.step.Step.{Step}
use Rattle.doc_model.specs.declared.step.Step.TheVariants.{Shut as shut_step, End as end_step}
use Rattle.doc_model.specs.declared.step.Verdict.{Verdict}
use Rattle.doc_model.specs.declared.places.Join.{Join as How}
use Rattle.doc_model.specs.declared.places.Join.TheVariants.{FirstOf, NextOf}
use Rattle.doc_model.specs.Cells.{Columns, place_at, row_of, node_at}
use Rattle.doc_model.specs.Document.{Document, after, document_of, is_parent, tail_of}
use Rattle.doc_model.specs.Lawful.{CanJoin}
use Rattle.doc_model.specs.Legal.{JoinFits, ShutFits, how_of, IsInnermost}
use Rattle.doc_model.specs.Relations.{extent_of, last_of, children_of}
use Rattle.doc_model.specs.Rows.{rows_of}
use Rattle.doc_laws.specs.Words.{LinksHold, ExtentsHold}
use Rattle.doc_laws.proofs.Growth.{document_of-push}
use Rattle.doc_laws.proofs.Stack.{StackOf, stack_of}
use Rattle.doc_laws.proofs.Last.{last_none, last_child}
use Rattle.doc_laws.proofs.Ends.{lawful_push}
use Rattle.doc_laws.proofs.Words.{join_first, join_next, extents_join, extents_shut}
use Rattle.plain_columns.specs.Link.{HowWithin, first_after, next_after}
use Rattle.plain_columns.specs.declared.entry.Entry.{Entry}
use Rattle.plain_columns.specs.Spelled.{step_of, steps_of, EntryFits, LogFits, WordsHold}

pub LogFits-push : (c : Columns) (log : List Entry) (entry : Entry) → LogFits c log → EntryFits c entry → LogFits c (log ++ entry ∷ [])
LogFits-push c [] entry l e = (e, tt)
LogFits-push c (x ∷ log) entry l e = (l.0, LogFits-push c log entry l.1 e)

-- while there is no verdict, one more word is one more step
pub steps_of-push : (c : Columns) (log : List Entry) (entry : Entry) (v : Option Verdict) → v ≡ None → steps_of c (log ++ entry ∷ []) v ≡ steps_of c log v ++ step_of c entry ∷ []
steps_of-push c log entry None e = map-append (step_of c) log (entry ∷ [])
steps_of-push c log entry (Some v) e = absurd cc

-- the verdict is the last step
pub steps_of-end : (c : Columns) (log : List Entry) (v : Option Verdict) (verdict : Verdict) → v ≡ None → steps_of c log (Some verdict) ≡ steps_of c log v ++ end_step verdict ∷ []
steps_of-end c log None verdict e = refl
steps_of-end c log (Some v) verdict e = absurd cc

pub how_within : (rows : List Row) (opened : List ℕ) (parent : ℕ) (how : How) → StackOf rows opened → IsInnermost opened parent
    → how ≡ how_of parent (last_of (children_of rows parent)) → (first next : ℕ) → length rows ≤ first → length rows ≤ next → HowWithin how first next
how_within rows [] parent how s i h first next f n = absurd i
how_within rows (o ∷ os) parent how s i h first next f n = rw h (go (last_of (children_of rows parent)) refl)
  where
    go : (last : Option ℕ) → last_of (children_of rows parent) ≡ last → HowWithin (how_of parent last) first next
    go None e = omega (arith, s.0.within, i)
    go (Some k) e = omega (arith, (last_child rows parent k e).within)

links_at : (rows : List Row) (o : ℕ) (os : List ℕ) (row : Row) (attributes : List Row) (first next : List ℕ) (last : Option ℕ)
    → last_of (children_of rows o) ≡ last → StackOf rows (o ∷ os) → CanJoin (o ∷ os) row attributes → length rows ≤ length first → length rows ≤ length next
    → LinksHold rows first next → LinksHold (rows ++ row ∷ attributes) (first_after (how_of o last) (length rows) first) (next_after (how_of o last) (length rows) next)
links_at rows o os row attributes first next None e s j f n l = join_first rows o os row attributes s j first next l (last_none _ e) (omega (arith, s.0.within))
links_at rows o os row attributes first next (Some k) e s j f n l =
    let r = last_child rows o k e in
    join_next rows o os row attributes s j first next l k r.child r.within r.alone (omega (arith, r.within))

join_links : (rows : List Row) (opened : List ℕ) (row : Row) (attributes : List Row) (parent : ℕ) (how : How) (first next : List ℕ)
    → StackOf rows opened → CanJoin opened row attributes → IsInnermost opened parent → how ≡ how_of parent (last_of (children_of rows parent)) → length rows ≤ length first → length rows ≤ length next
    → LinksHold rows first next → LinksHold (rows ++ row ∷ attributes) (first_after how (length rows) first) (next_after how (length rows) next)
join_links rows [] row attributes parent how first next s j i h f n l = absurd i
join_links rows (o ∷ os) row attributes parent how first next s j i h f n l =
    let e : how ≡ how_of o (last_of (children_of rows o)) = h ∙ ap (λ k. how_of k (last_of (children_of rows k))) (sym i) in
    subst (λ h. LinksHold (rows ++ row ∷ attributes) (first_after h (length rows) first) (next_after h (length rows) next)) (sym e)
    (links_at rows o os row attributes first next (last_of (children_of rows o)) refl s j f n l)

join_extents : (rows : List Row) (opened : List ℕ) (row : Row) (attributes : List Row) (parent : ℕ) (extent : List ℕ)
    → StackOf rows opened → CanJoin opened row attributes → IsInnermost opened parent
    → ExtentsHold rows opened extent → ExtentsHold (rows ++ row ∷ attributes) (cond (is_parent row.kind) (length rows ∷ opened) opened) extent
join_extents rows [] row attributes parent extent s j i x = absurd i
join_extents rows (o ∷ os) row attributes parent extent s j i x = extents_join rows o os row attributes s j extent x

shut_extents : (rows : List Row) (opened : List ℕ) (n : ℕ) (extent : List ℕ)
    → StackOf rows opened → IsInnermost opened n → length rows ≤ length extent
    → ExtentsHold rows opened extent → ExtentsHold rows (tail_of opened) (set extent n (extent_of rows n))
shut_extents rows [] n extent s i f x = absurd i
shut_extents rows (o ∷ os) n extent s i f x = rw (← i) (extents_shut rows o os extent s x (omega (arith, s.0.within)))

pub words_join : (c : Columns) (steps : List Step) (n : ℕ) (how : How) (first next extent : List ℕ) (v : Option Verdict)
    → WordsHold steps first next extent v → JoinFits (record { columns = c; steps = steps }) n how
    → length c.places ≤ length first → length c.places ≤ length next
    → WordsHold (steps ++ node_at c n ∷ []) (first_after how n first) (next_after how n next) extent v
words_join c steps n how first next extent v w j f g =
    let s = stack_of steps w.lawful in
    let r : document_of (steps ++ node_at c n ∷ []) ≡ after (document_of steps) (node_at c n) = document_of-push steps (node_at c n) in
    let attributes : List Row = map (row_of c) (take (place_at c n).attr_count (drop (suc n) c.places)) in
    let P : Document → Type 0 = λ q. LinksHold q.rows (first_after how n first) (next_after how n next) in
    let Q : Document → Type 0 = λ q. ExtentsHold q.rows q.opened extent in
    let R : ℕ → Type 0 = λ m. LinksHold (rows_of steps ++ row_of c (place_at c n) ∷ attributes) (first_after how m first) (next_after how m next) in
    record {
      lawful = lawful_push steps (node_at c n) w.lawful j.going j.may;
      links = subst P (sym r) (subst R (sym j.next)
          (join_links (rows_of steps) (document_of steps).opened (row_of c (place_at c n)) attributes (place_at c n).parent how first next s j.may j.innermost j.link
          (omega (arith, j.filled, j.next)) (omega (arith, j.filled, j.next)) w.links));
      extents = subst Q (sym r) (join_extents (rows_of steps) (document_of steps).opened (row_of c (place_at c n)) attributes (place_at c n).parent extent s j.may j.innermost w.extents);
      ended = w.ended ∙ sym (ap (λ (q : Document). q.ended) r);
    }

pub words_shut : (c : Columns) (steps : List Step) (n e : ℕ) (first next extent : List ℕ) (v : Option Verdict)
    → WordsHold steps first next extent v → ShutFits (record { columns = c; steps = steps }) n e → length (rows_of steps) ≤ length extent
    → WordsHold (steps ++ shut_step ∷ []) first next (set extent n e) v
words_shut c steps n e first next extent v w j f =
    let s = stack_of steps w.lawful in
    let r : document_of (steps ++ shut_step ∷ []) ≡ after (document_of steps) shut_step = document_of-push steps shut_step in
    let P : Document → Type 0 = λ q. LinksHold q.rows first next in
    let Q : Document → Type 0 = λ q. ExtentsHold q.rows q.opened (set extent n e) in
    record {
      lawful = lawful_push steps shut_step w.lawful j.going j.may;
      links = subst P (sym r) w.links;
      extents = subst Q (sym r) (rw (j.end) (shut_extents (rows_of steps) (document_of steps).opened n extent s j.innermost f w.extents));
      ended = w.ended ∙ sym (ap (λ (q : Document). q.ended) r);
    }

pub length-first_after : (how : How) (m : ℕ) (xs : List ℕ) → length (first_after how m xs) ≡ length xs
length-first_after (FirstOf o) m xs = length-set xs o m
length-first_after (NextOf k) m xs = refl

pub length-next_after : (how : How) (m : ℕ) (xs : List ℕ) → length (next_after how m xs) ≡ length xs
length-next_after (FirstOf o) m xs = refl
length-next_after (NextOf k) m xs = length-set xs k m
