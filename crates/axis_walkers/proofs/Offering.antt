-- What is known of a type number, and what a row gives.
use Rattle.std.proofs.Common.{◌≡◌, ℕ, ◌+◌, ◌-◌, ◌<◌, ◌≤◌, Bool, true, false, not, ◌&&◌, List, [], ◌∷◌, ◌++◌, length, Option, Some, None, Result, Ok}
use Rattle.std.proofs.Common.{Err, filter, get_or, refl, ap, sym, ◌∙◌, arith, cond, inl, inr}
use Rattle.std.proofs.lemmas.Bool.{and_left, and_right, cases_eq, eq-eqb, ne_eqb, false≢true}
use Rattle.std.proofs.lemmas.List.{get_or_append_left}
use Rattle.std.specs.Prelude.{bytes_eq, OnOk}
use Rattle.doc_model.specs.declared.node_test.Test.{Test}
use Rattle.doc_model.specs.declared.row.Kind.{Kind}
use Rattle.doc_model.specs.declared.row.Kind.TheVariants.{Root, Element, Attribute, Text, Instruction, Comment, Comment}
use Rattle.doc_model.specs.declared.row.Row.{Row}
use Rattle.doc_model.specs.declared.step.Step.{Step}
use Rattle.doc_model.specs.declared.strip_rule.StripRule.{StripRule}
use Rattle.doc_model.specs.Axes.{is_node}
use Rattle.doc_model.specs.Document.{is_attribute}
use Rattle.doc_model.specs.Lawful.{Grows, IsJoined}
use Rattle.doc_model.specs.NodeTests.{is_kind, meets}
use Rattle.doc_model.specs.Relations.{numbers, parent_of}
use Rattle.doc_model.specs.Rows.{rows_of, row_at}
use Rattle.doc_model.specs.Strip.{is_named, is_visible, is_blank, is_text, all_white, has_part, strips, row_or_root, keeps_space}
use Rattle.doc_model.specs.View.{Seen, IsSeen, IsSameType, Moves}
use Rattle.doc_laws.proofs.Growth.{prefix_rows, joined_grows, row_at_grows}
use Rattle.doc_laws.proofs.Numbers.{filter_same, filter-split}
use Rattle.doc_laws.proofs.Visible.{visible_grows}
use Rattle.axis_walkers.specs.Offered.{Judged, judged_at, with_judged, KnowsNothing, IsMet, only_if, is_plain}

pub row_later : (p q : List Step) (k : ℕ) → Grows p q → IsJoined p k → row_at (rows_of q) k ≡ row_at (rows_of p) k
row_later p q k g j = let r = prefix_rows p q g in ap (λ rows. row_at rows k) r.1 ∙ row_at_grows (rows_of p) r.0 k j

pub visible_later : (rules : List StripRule) (p q : List Step) (k : ℕ) → Grows p q → IsJoined p k → is_visible rules (rows_of q) k ≡ is_visible rules (rows_of p) k
visible_later rules p q k g j = let r = prefix_rows p q g in ap (λ rows. is_visible rules rows k) r.1 ∙ visible_grows rules (rows_of p) r.0 k j

pub type_later : {M : Type 0} (s t : Seen M) (k : ℕ) → IsSeen s → Moves s t → IsJoined s.steps k → get_or t.types k 0 ≡ get_or s.types k 0
type_later s t k i m j = ap (λ xs. get_or xs k 0) (sym m.types_grow.1) ∙ get_or_append_left s.types m.types_grow.0 0 k (omega (arith, i.types.count, j))

pub met_moves : {M : Type 0} (s t : Seen M) (test : Row → Bool) (met : Judged) → IsSeen s → Moves s t → IsMet s test met → IsMet t test met
met_moves s t test met i m h = record {
  row = λ id passes e.
      let r = h.row id passes e in (
        r.0,
        joined_grows s.steps t.steps (r.0) m.grows r.1,
        type_later s t (r.0) i m r.1 ∙ r.2,
        ap test (row_later s.steps t.steps (r.0) m.grows r.1) ∙ r.3,
      );
}

-- what is known stays where the same types are judged
pub met_same : {M : Type 0} (s : Seen M) (test : Row → Bool) (met other : Judged) → ((k : ℕ) → judged_at other k ≡ judged_at met k) → IsMet s test met → IsMet s test other
met_same s test met other same h = record { row = λ id passes e. h.row id passes (sym (same id) ∙ e) }

-- one more type is judged, by a row
pub met_more : {M : Type 0} (s : Seen M) (test : Row → Bool) (met other : Judged) (id k : ℕ) (passes : Bool) → ((j : ℕ) → judged_at other j ≡ with_judged met id passes j)
    → IsJoined s.steps k → get_or s.types k 0 ≡ id → test (row_at (rows_of s.steps) k) ≡ passes → IsMet s test met → IsMet s test other
met_more s test met other id k passes new j t p h = record { row = λ at known e. judge at known e }
  where
    some_same : (a b : Bool) → Some a ≡ Some b → a ≡ b
    some_same a b h = cc

    judge : (at : ℕ) (known : Bool) → judged_at other at ≡ Some known → (n : ℕ) × (n < length (rows_of s.steps)) × (get_or s.types n 0 ≡ at) × (test (row_at (rows_of s.steps) n) ≡ known)
    judge at known e = elim (cases_eq at id) [
      | inl same ↦
          let is : Some known ≡ Some passes = sym e ∙ new at ∙ ap (λ b. cond b (Some passes) (judged_at met at)) (eq-eqb at id same) in
          (k, j, t ∙ sym same, p ∙ sym (some_same known passes is))
      | inr other_one ↦ h.row at known (sym (new at ∙ ap (λ b. cond b (Some passes) (judged_at met at)) (ne_eqb at id other_one)) ∙ e)
    ]

-- a row of a type that is judged meets the test, or not, as the type does
met_hit : {M : Type 0} (s : Seen M) (test : Row → Bool) (met : Judged) (id k : ℕ) (passes : Bool) → ((a b : Row) → IsSameType a b → test a ≡ test b) → IsSeen s → IsJoined s.steps k → IsMet s test met
    → judged_at met id ≡ Some passes → id ≡ get_or s.types k 0 → test (row_at (rows_of s.steps) k) ≡ passes
met_hit s test met id k passes same i j h e t =
    let r = h.row id passes e in
    sym (same (row_at (rows_of s.steps) (r.0)) (row_at (rows_of s.steps) k) (i.types.same (r.0) k r.1 j (r.2 ∙ t))) ∙ r.3

-- a name and a kind
abbrev pub named_row : List ℕ → Option (List ℕ) → Kind → Row → Bool
named_row uri local kind row = is_named row uri local && is_kind kind row.kind

named_same : (uri : List ℕ) (local : Option (List ℕ)) (kind : Kind) (a b : Row) → IsSameType a b → named_row uri local kind a ≡ named_row uri local kind b
named_same uri local kind a b s =
    ap (λ x. (bytes_eq x uri && has_part local a.local) && is_kind kind a.kind) s.uri
    ∙ ap (λ x. (bytes_eq b.uri uri && has_part local x) && is_kind kind a.kind) s.local
    ∙ ap (λ x. (bytes_eq b.uri uri && has_part local b.local) && is_kind kind x) s.kind

pub named_hit : {M : Type 0} (s : Seen M) (uri : List ℕ) (local : Option (List ℕ)) (kind : Kind) (met : Judged) (id k : ℕ) (passes : Bool) → IsSeen s → IsJoined s.steps k
    → IsMet s (named_row uri local kind) met
    → judged_at met id ≡ Some passes → id ≡ get_or s.types k 0 → named_row uri local kind (row_at (rows_of s.steps) k) ≡ passes
named_hit s uri local kind met id k passes i j h e t = met_hit s (named_row uri local kind) met id k passes (named_same uri local kind) i j h e t

-- a row whose kind is asked for is visible, and no attribute
pub visible_unless_text : (rules : List StripRule) (rows : List Row) (k : ℕ) → is_text (row_at rows k).kind ≡ false → is_visible rules rows k ≡ true
visible_unless_text rules rows k h =
    ap not (and_right (strips rules (row_or_root rows (parent_of rows k))) (is_blank (row_at rows k) && not (keeps_space rows k))
    (and_left (is_blank (row_at rows k)) (not (keeps_space rows k)) (and_left (is_text (row_at rows k).kind) (all_white (row_at rows k).value) h)))

pub plain_later : (rules : List StripRule) (p q : List Step) (t : Test) (k : ℕ) → Grows p q → IsJoined p k → is_plain rules (rows_of q) t k ≡ is_plain rules (rows_of p) t k
plain_later rules p q t k g j =
    ap (λ b. b && (meets Element t (row_at (rows_of q) k) && is_node (rows_of q) k)) (visible_later rules p q k g j)
    ∙ ap (λ (r : Row). is_visible rules (rows_of p) k && (meets Element t r && not (is_attribute r.kind))) (row_later p q k g j)

-- the rows of a run, one more
pub range_on : (f : ℕ → Bool) (from k : ℕ) → from ≤ k → filter f (numbers from ((k + 1) - from)) ≡ filter f (numbers from (k - from)) ++ only_if (f k) k
range_on f from k h =
    let e : (k + 1) - from ≡ (k - from) + 1 = omega arith in
    let at : from + (k - from) ≡ k = omega arith in
    ap (λ c. filter f (numbers from c)) e ∙ filter-split f from (k - from) 1 ∙ ap (λ j. filter f (numbers from (k - from)) ++ filter f (j ∷ [])) at
    ∙ ap (λ xs. filter f (numbers from (k - from)) ++ xs) (one f k)
  where
    one : (f : ℕ → Bool) (k : ℕ) → filter f (k ∷ []) ≡ only_if (f k) k
    one f k = refl

pub range_later : (rules : List StripRule) (p q : List Step) (t : Test) (from to : ℕ) → Grows p q → to ≤ length (rows_of p)
    → filter (is_plain rules (rows_of q) t) (numbers from (to - from)) ≡ filter (is_plain rules (rows_of p) t) (numbers from (to - from))
range_later rules p q t from to g l = filter_same (is_plain rules (rows_of q) t) (is_plain rules (rows_of p) t) from (to - from) (λ k a b. plain_later rules p q t k g (omega arith))

pub kind_same : (a b : Kind) → is_kind a b ≡ true → a ≡ b
kind_same Root Root h = refl
kind_same Element Element h = refl
kind_same Attribute Attribute h = refl
kind_same Text Text h = refl
kind_same Instruction Instruction h = refl
kind_same Comment Comment h = refl
kind_same _ _ h = absurd (false≢true h)

pub and_true : (b : Bool) → (b && true) ≡ b
and_true true = refl
and_true false = refl

-- the rows of a run at a later step
pub range_moves : {M : Type 0} (s t : Seen M) (x : Test) (from to : ℕ) → Moves s t → to ≤ length (rows_of s.steps)
    → filter (is_plain t.rules (rows_of t.steps) x) (numbers from (to - from)) ≡ filter (is_plain s.rules (rows_of s.steps) x) (numbers from (to - from))
range_moves s t x from to m l = ap (λ rules. filter (is_plain rules (rows_of t.steps) x) (numbers from (to - from))) m.rules_stay ∙ range_later s.rules s.steps t.steps x from to m.grows l

-- a row that was visible was offered
pub shown_then : {M E : Type 0} (s t : Seen M) (n : ℕ) (x : Test) (result : Result (Unit {0}) E) (xs ys : List ℕ) → IsJoined s.steps n → is_visible s.rules (rows_of s.steps) n ≡ true → Moves s t
    → OnOk result (ys ≡ xs ++ only_if (meets Element x (row_at (rows_of t.steps) n)) n)
    → OnOk result (ys ≡ xs ++ only_if (is_visible t.rules (rows_of t.steps) n && meets Element x (row_at (rows_of t.steps) n)) n)
shown_then s t n x (Err e) xs ys j v m h = tt
shown_then s t n x (Ok u) xs ys j v m h =
    let seen : is_visible t.rules (rows_of t.steps) n ≡ true = ap (λ rules. is_visible rules (rows_of t.steps) n) m.rules_stay ∙ visible_later s.rules s.steps t.steps n m.grows j ∙ v in
    h ∙ ap (λ b. xs ++ only_if (b && meets Element x (row_at (rows_of t.steps) n)) n) (sym seen)

pub met_fresh : {M : Type 0} (s : Seen M) (test : Row → Bool) (met : Judged) → KnowsNothing met → IsMet s test met
met_fresh s test met none = record { row = λ id passes e. absurd (none_some passes (sym (none.none id) ∙ e)) }
  where
    none_some : (passes : Bool) → None ≡ Some passes → ⊥
    none_some passes h = cc
