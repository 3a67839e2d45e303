-- From a row up to one around it, by parents.
use Rattle.std.proofs.Common.{◌≡◌, ℕ, suc, ◌+◌, ◌-◌, ◌<◌, ◌≤◌, true, false, cond, List, [], ◌∷◌, ◌++◌, length, Option, None, Some, IsSome, refl, ap}
use Rattle.std.proofs.Common.{sym, ◌∙◌, arith, append-nil, append_assoc, inl, inr}
use Rattle.std.proofs.lemmas.Bool.{cases_lt, cases_eq, false≢true}
use Rattle.doc_model.specs.declared.row.Row.{Row}
use Rattle.doc_model.specs.declared.step.Step.{Step}
use Rattle.doc_model.specs.Document.{is_parent}
use Rattle.doc_model.specs.Lawful.{Grows, IsJoined, IsLawful}
use Rattle.doc_model.specs.Relations.{parent_of}
use Rattle.doc_model.specs.Rows.{rows_of, row_at}
use Rattle.doc_laws.proofs.Growth.{joined_grows, prefix_rows, parent_grows}
use Rattle.result_events.specs.declared.event.ResultEvent.{ResultEvent}
use Rattle.result_events.specs.declared.event.ResultEvent.TheVariants as event
use Rattle.copy_meaning.specs.Passes.{depth_at, ends, depth_behind}
use Rattle.copy_meaning.proofs.Documents.{IsDocument, lawful_document}
use Rattle.copy_meaning.proofs.Families.{parent_depth}
use Rattle.copy_meaning.proofs.Subtrees.{ends-add}
use Rattle.engine_content.specs.Climbing.{IsAround, IsInnermost}
use Rattle.engine_content.proofs.Rows.{row_later, depth_later}

module _ (rows : List Row) (doc : IsDocument rows) where
  -- a row with others around it has a parent, which is one of these or in them
  around_none : (at to : ℕ) → at < length rows → IsAround rows at to → (at ≡ to → ⊥) → parent_of rows at ≡ None → ⊥
  around_none at to l a ne h = let z = doc.rooted.alone at l h in ne (omega (arith, z, a.before))

  around_up : (at to up : ℕ) → at < length rows → IsAround rows at to → (at ≡ to → ⊥) → parent_of rows at ≡ Some up → IsAround rows up to
  around_up at to up l a ne h =
      let p = parent_depth rows doc at up l h in
      let b = a.before in
      let deep = a.deeper at (omega arith) (omega arith) in
      record {
        before = elim (cases_lt up to) [
          | inr ge ↦ ge
          | inl lt ↦ absurd (omega (arith, doc.tree.contains at up to l h lt b, p.1, deep))
        ];
        deeper = λ j x y. a.deeper j x (omega (arith, p.0, y));
      }

  -- the innermost row that is open behind the row before row k is the parent of k or in it
  pub parent_around : (at k up : ℕ) → k < length rows → at < k → IsInnermost rows at (k - 1) → parent_of rows k ≡ Some up → IsAround rows at up
  parent_around at k up l b i h =
      let p = parent_depth rows doc k up l h in
      record {
        before = elim (cases_lt at up) [
          | inr ge ↦ ge
          | inl lt ↦ elim i.last [
            | inl same ↦ omega (arith, p.0, same)
            | inr leaf ↦ elim (cases_eq up (k - 1)) [
              | inl e ↦ absurd (false≢true (sym leaf.0 ∙ ap (λ j. is_parent (row_at rows j).kind) (sym e) ∙ doc.tree.parents k up l h))
              | inr ne ↦ absurd (omega (arith, leaf.1, i.deeper up lt (omega (arith, p.0)), doc.tree.contains k up (k - 1) l h (omega (arith, p.0)) (omega arith)))
            ]
          ]
        ];
        deeper = λ j x y. doc.tree.contains k up j l h x (omega (arith, y, b));
      }

  pub parent_some : (k : ℕ) → k < length rows → 0 < k → parent_of rows k ≡ None → ⊥
  parent_some k l b h = let z = doc.rooted.alone k l h in omega (arith, z)

pub parent_later : (p q : List Step) (k : ℕ) → Grows p q → IsJoined p k → parent_of (rows_of q) k ≡ parent_of (rows_of p) k
parent_later p q k g j = let w = prefix_rows p q g in ap (λ rows. parent_of rows k) w.1 ∙ parent_grows (rows_of p) w.0 k j

-- what ends before row k: the row that was open, and those around it below the parent of k
pub ends_before : (p q : List Step) (at up k : ℕ) → Grows p q → IsLawful q → IsJoined p at → IsJoined p k → parent_of (rows_of q) k ≡ Some up
    → depth_at (rows_of p) at - depth_at (rows_of p) up ≡ suc (depth_at (rows_of q) at) - depth_at (rows_of q) k
ends_before p q at up k g l ja jk h =
    let u = parent_depth (rows_of q) (lawful_document q l) k up (joined_grows p q k g jk) h in
    omega (arith, u.1, depth_later p q at g ja, depth_later p q up g (omega (arith, u.0, jk)))

-- the depth of the innermost row that is open behind row k
pub behind_itself : (rows : List Row) (k : ℕ) → is_parent (row_at rows k).kind ≡ true → depth_at rows k ≡ depth_behind (row_at rows k)
behind_itself rows k e = sym (ap (λ b. cond b (depth_at rows k) (depth_at rows k - 1)) e)

pub behind_parent : (p : List Step) (k up : ℕ) → IsLawful p → IsJoined p k → is_parent (row_at (rows_of p) k).kind ≡ false → parent_of (rows_of p) k ≡ Some up
    → depth_at (rows_of p) up ≡ depth_behind (row_at (rows_of p) k)
behind_parent p k up l j e h =
    let u = parent_depth (rows_of p) (lawful_document p l) k up j h in
    let d : depth_at (rows_of p) up ≡ depth_at (rows_of p) k - 1 = omega (arith, u.1) in
    d ∙ sym (ap (λ b. cond b (depth_at (rows_of p) k) (depth_at (rows_of p) k - 1)) e)

-- behind a row, that row is open or its parent is
pub innermost_itself : (rows : List Row) (k : ℕ) → IsInnermost rows k k
innermost_itself rows k = record { before = omega arith; deeper = λ j x y. absurd (omega arith); last = inl refl }

pub innermost_parent : (rows : List Row) (doc : IsDocument rows) (k up : ℕ) → k < length rows → is_parent (row_at rows k).kind ≡ false → parent_of rows k ≡ Some up → IsInnermost rows up k
innermost_parent rows doc k up l leaf h =
    let p = parent_depth rows doc k up l h in
    record { before = omega (arith, p.0); deeper = λ j x y. doc.tree.contains k up j l h x y; last = inr (leaf, p.1) }

around_later : (p q : List Step) (at to : ℕ) → Grows p q → IsJoined p at → IsAround (rows_of p) at to → IsAround (rows_of q) at to
around_later p q at to g j a = record {
  before = a.before;
  deeper = λ i x y. omega (arith, a.deeper i x y, depth_later p q i g (omega (arith, y, j)), depth_later p q to g (omega (arith, a.before, j)));
}

pub innermost_later : (p q : List Step) (at k : ℕ) → Grows p q → IsJoined p k → IsInnermost (rows_of p) at k → IsInnermost (rows_of q) at k
innermost_later p q at k g j i =
    let da = depth_later p q at g (omega (arith, i.before, j)) in
    record {
      before = i.before;
      deeper = λ m x y. omega (arith, i.deeper m x y, depth_later p q m g (omega (arith, y, j)), da);
      last = elim i.last [
        | inl e ↦ inl e
        | inr leaf ↦ inr (ap (λ (r : Row). is_parent r.kind) (row_later p q k g j) ∙ leaf.0, omega (arith, leaf.1, da, depth_later p q k g j))
      ];
    }

pub is_there : (o : Option ℕ) → (o ≡ None → ⊥) → IsSome o
is_there None h = absurd (h refl)
is_there (Some n) h = refl

-- the elements from row `at` up to row `now` are ended, and row `to` is still around
pub record Climbed (steps : List Step) (at now to : ℕ) (old made : List ResultEvent) : Type 0 where
  pub begun : IsJoined steps at
  pub joined : IsJoined steps now
  pub around : IsAround (rows_of steps) now to
  pub level : depth_at (rows_of steps) now ≤ depth_at (rows_of steps) at
  pub events : made ≡ old ++ ends (depth_at (rows_of steps) at - depth_at (rows_of steps) now)

pub climbed_first : (steps : List Step) (at to : ℕ) (old : List ResultEvent) → IsJoined steps at → IsAround (rows_of steps) at to → Climbed steps at at to old old
climbed_first steps at to old j a =
    let z : depth_at (rows_of steps) at - depth_at (rows_of steps) at ≡ 0 = omega arith in
    record { begun = j; joined = j; around = a; level = omega arith; events = sym (ap (λ n. old ++ ends n) z ∙ append-nil old) }

pub climbed_later : (p q : List Step) (at now to : ℕ) (old made : List ResultEvent) → Grows p q → Climbed p at now to old made → Climbed q at now to old made
climbed_later p q at now to old made g c =
    let da = depth_later p q at g c.begun in
    let dn = depth_later p q now g c.joined in
    record {
      begun = joined_grows p q at g c.begun;
      joined = joined_grows p q now g c.joined;
      around = around_later p q now to g c.joined c.around;
      level = omega (arith, c.level, da, dn);
      events = c.events ∙ sym (ap (λ n. old ++ ends (n - depth_at (rows_of q) now)) da ∙ ap (λ n. old ++ ends (depth_at (rows_of p) at - n)) dn);
    }

pub climbed_some : (steps : List Step) (at now to : ℕ) (old made : List ResultEvent) → IsLawful steps → Climbed steps at now to old made → (now ≡ to → ⊥) → parent_of (rows_of steps) now ≡ None → ⊥
climbed_some steps at now to old made l c ne h = around_none (rows_of steps) (lawful_document steps l) now to c.joined c.around ne h

pub climbed_on : (steps : List Step) (at now to up : ℕ) (old made more : List ResultEvent) → IsLawful steps → Climbed steps at now to old made → (now ≡ to → ⊥)
    → parent_of (rows_of steps) now ≡ Some up → more ≡ made ++ event.End ∷ []
    → Climbed steps at up to old more
climbed_on steps at now to up old made more l c ne h e =
    let doc = lawful_document steps l in
    let p = parent_depth (rows_of steps) doc now up c.joined h in
    let s : depth_at (rows_of steps) at - depth_at (rows_of steps) up ≡ (depth_at (rows_of steps) at - depth_at (rows_of steps) now) + 1 = omega (arith, c.level, p.1) in
    record {
      begun = c.begun;
      joined = omega (arith, c.joined, p.0);
      around = around_up (rows_of steps) doc now to up c.joined c.around ne h;
      level = omega (arith, c.level, p.1);
      events =
          e ∙ ap (λ xs. xs ++ event.End ∷ []) c.events
          ∙ append_assoc old (ends (depth_at (rows_of steps) at - depth_at (rows_of steps) now)) (event.End ∷ [])
          ∙ ap (λ xs. old ++ xs) (sym (ends-add (depth_at (rows_of steps) at - depth_at (rows_of steps) now) 1))
          ∙ sym (ap (λ n. old ++ ends n) s);
    }

pub climbed_end : (steps : List Step) (at now to : ℕ) (old made : List ResultEvent) → now ≡ to → Climbed steps at now to old made
    → made ≡ old ++ ends (depth_at (rows_of steps) at - depth_at (rows_of steps) to)
climbed_end steps at now to old made e c = c.events ∙ ap (λ n. old ++ ends (depth_at (rows_of steps) at - depth_at (rows_of steps) n)) e
