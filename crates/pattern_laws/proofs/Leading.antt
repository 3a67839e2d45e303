-- Where the steps of a pattern lead from a node, and from where they lead to one.
use Rattle.std.proofs.Common.{◌≡◌, refl, sym, ap, ◌∙◌, subst, ℕ, ◌<◌, Bool, true, false, cond, eqb, List, [], ◌∷◌, length, map, Option, Some, arith, inl, inr, ◌⊎◌}
use Rattle.std.proofs.lemmas.Bool.{and_from, and_parts, cases_Bool, cases_lt, eq-eqb, false≢true, or_left, or_right}
use mathlib.Core.List.{reverse_aux}
use Rattle.doc_model.specs.declared.node_test.Test.{Test}
use Rattle.doc_model.specs.declared.node_test.Test.TheVariants as any
use Rattle.doc_model.specs.declared.row.Axis.TheVariants as axis
use Rattle.doc_model.specs.declared.row.Kind.TheVariants as kind
use Rattle.doc_model.specs.declared.row.Row.{Row}
use Rattle.doc_model.specs.declared.strip_rule.StripRule.{StripRule}
use Rattle.doc_model.specs.Axes.{is_below, is_descendant, is_node, is_on}
use Rattle.doc_model.specs.Document.{is_attribute, is_member, is_parent}
use Rattle.doc_model.specs.NodeTests.{meets}
use Rattle.doc_model.specs.Relations.{is_some_of, parent_of}
use Rattle.doc_model.specs.Rows.{row_at}
use Rattle.doc_model.specs.Strip.{is_visible}
use Rattle.doc_laws.proofs.Ancestors.{below_from, below_parts}
use Rattle.doc_laws.proofs.Kids.{is_some_of-true}
use Rattle.doc_laws.proofs.Rooted.{IsRooted}
use Rattle.doc_laws.proofs.Sound.{TreeHolds}
use Rattle.doc_laws.proofs.Subtrees.{extent_deeper, extent_reaches}
use Rattle.xpath_grammar.specs.Grammar.{any_depth}
use Rattle.xpath_laws.specs.Sound.{Each}
use Rattle.xpath_laws.proofs.There.{no_text, seen_if_no_text}
use Rattle.xpath_meaning.specs.Match.{fits, is_attribute_axis, match_step}
use Rattle.xpath_meaning.specs.Tests.{axis_of, test_of}
use Rattle.xpath_syntax.specs.declared.expression.AxisName.{AxisName}
use Rattle.xpath_syntax.specs.declared.expression.AxisName.TheVariants as name
use Rattle.xpath_syntax.specs.declared.expression.StepExpr.{StepExpr, out-StepExpr}
use Rattle.xpath_syntax.specs.declared.pattern.PatternStep.{PatternStep}
use Rattle.pattern_laws.specs.Reading.{steps_in}
use Rattle.pattern_laws.specs.Selecting.{IsAround, IsPlainStep, is_pattern_axis}
use Rattle.pattern_laws.proofs.Paths.{IsBare, Reach, found_by, found_on}
use Rattle.pattern_laws.proofs.Rowwise.{is_selected_by, parent_selected, selected_is, under}

-- a step along an axis of patterns leads from row m to row k
pub record Hits (rules : List StripRule) (rows : List Row) (axis : AxisName) (test : Test) (m k : ℕ) : Type 0 where
  pub joined : k < length rows
  pub visible : is_visible rules rows k ≡ true
  pub parent : parent_of rows k ≡ Some m
  pub fits : fits (is_attribute_axis axis) test (row_at rows k) ≡ true

pub found_hits : (rules : List StripRule) (rows : List Row) (axis : AxisName) (test : Test) → is_pattern_axis axis ≡ true → (m k : ℕ) → is_member k (found_on rules rows (axis_of axis) test m) ≡ true
    → Hits rules rows axis test m k
found_hits rules rows name.Child test p m k h =
    let s = selected_is rules rows m axis.Child test k h in
    let q = and_parts (is_node rows k) (is_some_of (parent_of rows k) m) s.on in
    record { joined = s.joined; visible = s.visible; parent = is_some_of-true (parent_of rows k) m q.1; fits = and_from (is_node rows k) (meets kind.Element test (row_at rows k)) q.0 s.meets }
found_hits rules rows name.Attribute test p m k h =
    let s = selected_is rules rows m axis.Attribute test k h in
    let q = and_parts (is_attribute (row_at rows k).kind) (is_some_of (parent_of rows k) m) s.on in
    record {
      joined = s.joined;
      visible = s.visible;
      parent = is_some_of-true (parent_of rows k) m q.1;
      fits = and_from (is_attribute (row_at rows k).kind) (meets kind.Attribute test (row_at rows k)) q.0 s.meets;
    }
found_hits rules rows _ test p m k h = absurd (false≢true p)

pub some_is : (o : Option ℕ) (m : ℕ) → o ≡ Some m → is_some_of o m ≡ true
some_is o m e = ap (λ p. is_some_of p m) e ∙ eq-eqb m m refl

pub hits_found : (rules : List StripRule) (rows : List Row) (axis : AxisName) (test : Test) → is_pattern_axis axis ≡ true → (m k : ℕ) → Hits rules rows axis test m k
    → is_member k (found_on rules rows (axis_of axis) test m) ≡ true
hits_found rules rows name.Child test p m k h =
    let q = and_parts (is_node rows k) (meets kind.Element test (row_at rows k)) h.fits in
    is_selected_by rules rows m axis.Child test k (record {
      joined = h.joined;
      visible = h.visible;
      meets = q.1;
      on = and_from (is_node rows k) (is_some_of (parent_of rows k) m) q.0 (some_is (parent_of rows k) m h.parent);
    })
hits_found rules rows name.Attribute test p m k h =
    let q = and_parts (is_attribute (row_at rows k).kind) (meets kind.Attribute test (row_at rows k)) h.fits in
    is_selected_by rules rows m axis.Attribute test k (record {
      joined = h.joined;
      visible = h.visible;
      meets = q.1;
      on = and_from (is_attribute (row_at rows k).kind) (is_some_of (parent_of rows k) m) q.0 (some_is (parent_of rows k) m h.parent);
    })
hits_found rules rows _ test p m k h = absurd (false≢true p)

-- where a step comes from: the parent itself, or what it is at any depth of
abbrev pub Source : List Row → Bool → ℕ → ℕ → Type 0
Source rows true m a = is_on axis.DescendantOrSelf rows m a ≡ true
Source rows false m a = m ≡ a

abbrev pub StepLeads : List StripRule → List Row → PatternStep → ℕ → ℕ → Type 0
StepLeads rules rows p m k = (a : ℕ) × Hits rules rows (out-StepExpr p.part).axis (test_of (out-StepExpr p.part).test) a k × Source rows p.deep m a

-- the steps lead on from row m to row n, the first of them first
abbrev pub Goes : List StripRule → List Row → List PatternStep → ℕ → ℕ → Type 0
Goes rules rows [] m n = m ≡ n
Goes rules rows (p ∷ ps) m n = (k : ℕ) × StepLeads rules rows p m k × Goes rules rows ps k n

-- the same of steps of which the last stands first
abbrev pub Back : List StripRule → List Row → List PatternStep → ℕ → ℕ → Type 0
Back rules rows [] m n = m ≡ n
Back rules rows (p ∷ ps) m n = (k : ℕ) × StepLeads rules rows p k n × Back rules rows ps m k

pub goes_back : (rules : List StripRule) (rows : List Row) (ps done : List PatternStep) (m k n : ℕ) → Back rules rows done m k → Goes rules rows ps k n → Back rules rows (reverse_aux ps done) m n
goes_back rules rows [] done m k n b g = subst (Back rules rows done m) g b
goes_back rules rows (p ∷ ps) done m k n b g = goes_back rules rows ps (p ∷ done) m (g.0) n (k, g.1, b) g.2

pub back_goes : (rules : List StripRule) (rows : List Row) (ps done : List PatternStep) (m n : ℕ) → Back rules rows (reverse_aux ps done) m n
    → (k : ℕ) × Back rules rows done m k × Goes rules rows ps k n
back_goes rules rows [] done m n b = (n, b, refl)
back_goes rules rows (p ∷ ps) done m n b =
    let w = back_goes rules rows ps (p ∷ done) m n b in
    ((w.1).0, (w.1).2, (w.0, (w.1).1, w.2))

pub map_reversed : (ps done : List PatternStep) → reverse_aux (map match_step ps) (map match_step done) ≡ map match_step (reverse_aux ps done)
map_reversed [] done = refl
map_reversed (p ∷ ps) done = map_reversed ps (p ∷ done)

pub each_reversed : {A : Type 0} (P : A → Type 0) (xs done : List A) → Each P xs → Each P done → Each P (reverse_aux xs done)
each_reversed P [] done a d = d
each_reversed P (x ∷ xs) done a d = each_reversed P xs (x ∷ done) a.1 (a.0, d)

-- what stands within what stands within
pub below_trans : (rows : List Row) (m k n : ℕ) → n < length rows → is_below rows m k ≡ true → is_below rows k n ≡ true → is_below rows m n ≡ true
below_trans rows m k n l h i =
    let a = below_parts rows m k h in
    let b = below_parts rows k n i in
    let x = a.0 in
    let y = b.0 in
    below_from rows m n (omega (arith, x, y)) (extent_reaches rows m n (omega (arith, x, y)) l (λ j p q. elim (cases_lt k j) [
      | inl lt ↦ let d = extent_deeper rows k j lt (let z = b.1 in omega (arith, z, q)) in let e = extent_deeper rows m k a.0 a.1 in omega (arith, d, e)
      | inr ge ↦ extent_deeper rows m j p (let z = a.1 in omega (arith, z, ge))
    ]))

module _ (rules : List StripRule) (rows : List Row) (t : TreeHolds rows) (r : IsRooted rows) where
  -- what has a row below it is an element or the root
  pub holds_below : (m n : ℕ) → m < length rows → is_below rows m n ≡ true → is_parent (row_at rows m).kind ≡ true
  holds_below m n l h = let b = below_parts rows m n h in elim (cases_Bool (is_parent (row_at rows m).kind)) [
    | inl e ↦ e
    | inr f ↦ absurd (let x = b.0 in let y = b.1 in let z = t.leaves m l f in omega (arith, x, y, z))
  ]

  pub around_visible : (m n : ℕ) → m < length rows → is_below rows m n ≡ true → is_visible rules rows m ≡ true
  around_visible m n l h = seen_if_no_text rules rows m (no_text (row_at rows m).kind (holds_below m n l h))

  step_below : (p : PatternStep) (m k : ℕ) → StepLeads rules rows p m k → is_below rows m k ≡ true
  step_below p m k s = by p.deep s.2
    where
      by : (deep : Bool) → Source rows deep m s.0 → is_below rows m k ≡ true
      by true d = under rows t r m (s.0) k (s.1).joined (s.1).parent d
      by false e = under rows t r m (s.0) k (s.1).joined (s.1).parent (or_left (eqb m (s.0)) (is_descendant rows m (s.0)) (eq-eqb m (s.0) e))

  -- steps lead from a row to itself or to rows below it
  pub goes_down : (ps : List PatternStep) (m n : ℕ) → n < length rows → Goes rules rows ps m n → (m ≡ n) ⊎ (is_below rows m n ≡ true)
  goes_down [] m n l g = inl g
  goes_down (p ∷ ps) m n l g =
      let b = step_below p m (g.0) g.1 in
      elim (goes_down ps (g.0) n l g.2) [ inl e ↦ inr (subst (λ k. is_below rows m k ≡ true) e b) | inr d ↦ inr (below_trans rows m (g.0) n l b d) ]

  pub goes_around : (ps : List PatternStep) (m n : ℕ) → n < length rows → Goes rules rows ps m n → IsAround rows m n
  goes_around ps m n l g = elim (goes_down ps m n l g) [
    | inl e ↦ or_left (eqb n m) (is_below rows m n) (eq-eqb n m (sym e))
    | inr d ↦ or_right (eqb n m) (is_below rows m n) d
  ]

  -- a first step leads from an element or the root
  pub goes_from : (p : PatternStep) (ps : List PatternStep) (m n : ℕ) → m < length rows → Goes rules rows (p ∷ ps) m n → is_parent (row_at rows m).kind ≡ true
  goes_from p ps m n l g = holds_below m (g.0) l (step_below p m (g.0) g.1)

  deep_reach : (deep : Bool) (part : StepExpr) (ss : List StepExpr) → is_pattern_axis (out-StepExpr part).axis ≡ true → (m a k n : ℕ)
      → Hits rules rows (out-StepExpr part).axis (test_of (out-StepExpr part).test) a k → Source rows deep m a → Reach rules rows ss k n
      → Reach rules rows (cond deep (any_depth ∷ part ∷ ss) (part ∷ ss)) m n
  deep_reach true part ss q m a k n h s x = (
    a,
    is_selected_by rules rows m axis.DescendantOrSelf any.Any a (parent_selected rows t r rules m a k axis.DescendantOrSelf h.joined h.parent s),
    (k, hits_found rules rows (out-StepExpr part).axis (test_of (out-StepExpr part).test) q a k h, x),
  )
  deep_reach false part ss q m a k n h s x = (
    k,
    subst (λ j. is_member k (found_by rules rows part j) ≡ true) (sym s) (hits_found rules rows (out-StepExpr part).axis (test_of (out-StepExpr part).test) q a k h),
    x,
  )

  reach_deep : (deep : Bool) (part : StepExpr) (ss : List StepExpr) → is_pattern_axis (out-StepExpr part).axis ≡ true → (m n : ℕ)
      → Reach rules rows (cond deep (any_depth ∷ part ∷ ss) (part ∷ ss)) m n
      → (k : ℕ) × ((a : ℕ) × Hits rules rows (out-StepExpr part).axis (test_of (out-StepExpr part).test) a k × Source rows deep m a) × Reach rules rows ss k n
  reach_deep true part ss q m n x =
      let d = selected_is rules rows m axis.DescendantOrSelf any.Any (x.0) x.1 in
      let y = x.2 in
      (y.0, (x.0, found_hits rules rows (out-StepExpr part).axis (test_of (out-StepExpr part).test) q (x.0) (y.0) y.1, d.on), y.2)
  reach_deep false part ss q m n x = (x.0, (m, found_hits rules rows (out-StepExpr part).axis (test_of (out-StepExpr part).test) q m (x.0) x.1, refl), x.2)

  -- the steps of a pattern lead where its steps as an expression do
  pub goes_reach : (ps : List PatternStep) → Each IsPlainStep ps → (m n : ℕ) → Goes rules rows ps m n → Reach rules rows (steps_in ps) m n
  goes_reach [] p m n g = g
  goes_reach (s ∷ ss) p m n g = deep_reach s.deep s.part (steps_in ss) (p.0).axis m (g.1).0 (g.0) n (g.1).1 (g.1).2 (goes_reach ss p.1 (g.0) n g.2)

  pub reach_goes : (ps : List PatternStep) → Each IsPlainStep ps → (m n : ℕ) → Reach rules rows (steps_in ps) m n → Goes rules rows ps m n
  reach_goes [] p m n x = x
  reach_goes (s ∷ ss) p m n x = let w = reach_deep s.deep s.part (steps_in ss) (p.0).axis m n x in (w.0, w.1, reach_goes ss p.1 (w.0) n w.2)

any_bare : IsBare any_depth
any_bare = refl

deep_bare : (deep : Bool) (part : StepExpr) (ss : List StepExpr) → IsBare part → Each IsBare ss → Each IsBare (cond deep (any_depth ∷ part ∷ ss) (part ∷ ss))
deep_bare true part ss p a = (any_bare, (p, a))
deep_bare false part ss p a = (p, a)

pub steps_bare : (ps : List PatternStep) → Each IsPlainStep ps → Each IsBare (steps_in ps)
steps_bare [] p = tt
steps_bare (s ∷ ss) p = deep_bare s.deep s.part (steps_in ss) (p.0).bare (steps_bare ss p.1)
