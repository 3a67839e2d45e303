-- By how a pattern starts: it matches what it selects.
use Rattle.std.proofs.Common.{◌≡◌, refl, sym, ap, ◌∙◌, subst, not, ℕ, ◌<◌, Bool, true, false, eqb, List, [], ◌∷◌, length, Option, Some, None, arith, inl, inr}
use Rattle.std.proofs.lemmas.Bool.{and_from, cases_eq, eq-eqb, eqb-true, false≢true, or_left, or_right}
use mathlib.Core.List.{reverse_aux}
use Rattle.doc_model.specs.declared.node_test.Test.TheVariants as any
use Rattle.doc_model.specs.declared.row.Axis.TheVariants as axis
use Rattle.doc_model.specs.declared.row.Row.{Row}
use Rattle.doc_model.specs.declared.step.Step.{Step}
use Rattle.doc_model.specs.declared.strip_rule.StripRule.{StripRule}
use Rattle.doc_model.specs.Answers.{Fault, Known, Open}
use Rattle.doc_model.specs.Axes.{is_below, is_descendant, is_node, is_on}
use Rattle.doc_model.specs.Document.{is_member}
use Rattle.doc_model.specs.Lawful.{IsComplete, IsLawful}
use Rattle.doc_model.specs.Rows.{row_at, rows_of}
use Rattle.doc_laws.proofs.Ancestors.{below_from, below_parts}
use Rattle.doc_laws.proofs.Root.{root_extent}
use Rattle.doc_laws.proofs.Rooted.{IsRooted, lawful_rooted}
use Rattle.doc_laws.proofs.Sound.{TreeHolds, lawful_tree}
use Rattle.doc_laws.proofs.Subtrees.{parent_plain}
use Rattle.sheet_ast.specs.declared.sheet.KeyDecl.{KeyDecl}
use Rattle.xpath_grammar.specs.Grammar.{any_depth, path_of}
use Rattle.xpath_laws.specs.Sound.{Each, IsThere}
use Rattle.xpath_laws.proofs.Complete.{nothing_open}
use Rattle.xpath_laws.proofs.Order.{or_cases, order_members}
use Rattle.xpath_laws.proofs.Tells.{member_has}
use Rattle.xpath_laws.proofs.There.{reading_told}
use Rattle.xpath_meaning.specs.DocumentOrder.{document_order}
use Rattle.xpath_meaning.specs.Evaluation.{evaluation_of}
use Rattle.xpath_meaning.specs.Keys.{alone}
use Rattle.xpath_meaning.specs.Match.{leads, starts}
use Rattle.xpath_meaning.specs.Outcome.{Outcome}
use Rattle.xpath_meaning.specs.Reading.{Reading}
use Rattle.xpath_meaning.specs.Readings.{reading_of}
use Rattle.xpath_syntax.specs.declared.expression.Expr.TheVariants as expr
use Rattle.xpath_syntax.specs.declared.expression.NameRef.{NameRef}
use Rattle.xpath_syntax.specs.declared.expression.StepExpr.{StepExpr}
use Rattle.xpath_syntax.specs.declared.pattern.PatternPath.{PatternPath}
use Rattle.xpath_syntax.specs.declared.pattern.PatternStart.{PatternStart}
use Rattle.xpath_syntax.specs.declared.pattern.PatternStart.TheVariants as start
use Rattle.xpath_syntax.specs.declared.pattern.PatternStep.{PatternStep}
use Rattle.xpath_values.specs.declared.value.Value.{Value}
use Rattle.xpath_values.specs.declared.value.Value.TheVariants.{Nodes}
use Rattle.pattern_laws.specs.Reading.{call_of_id, call_of_key, expression_from, steps_in}
use Rattle.pattern_laws.specs.Selecting.{IsAround, IsPlain, IsPlainStep, LooksUpWithoutFault, MatchesAsSelected, Selects, start_at}
use Rattle.pattern_laws.proofs.Calling.{call_known, found_by, found_by_ids, id_call, key_call, key_there, named, named_there, no_key}
use Rattle.pattern_laws.proofs.Leading.{Goes, around_visible, back_goes, each_reversed, goes_around, goes_back, goes_from, goes_reach, map_reversed, reach_goes, steps_bare}
use Rattle.pattern_laws.proofs.Members.{member_alone, member_here}
use Rattle.pattern_laws.proofs.Paths.{IsBare, Reach, after, after_has, has_after, path_known}
use Rattle.pattern_laws.proofs.Rowwise.{is_selected_by, selected_is}
use Rattle.pattern_laws.proofs.Telling.{leads_told}

pub one_value : (o : Outcome Value) (ms ns : List ℕ) → o ≡ Known (Nodes ms) → o ≡ Known (Nodes ns) → ms ≡ ns
one_value o ms ns a b = let e : Known (Nodes ms) ≡ Known (Nodes ns) = sym a ∙ b in cc

itself_around : (rows : List Row) (n : ℕ) → IsAround rows n n
itself_around rows n = or_left (eqb n n) (is_below rows n n) (eq-eqb n n refl)

module _ (rules : List StripRule) (keys : List KeyDecl) (id : Option (List ℕ)) (steps : List Step) (lawful : IsLawful steps) (whole : IsComplete steps) where
  abbrev R : Reading
  R = reading_of rules keys id steps

  abbrev rows : List Row
  rows = rows_of steps

  abbrev T : ℕ → Type 0
  T = IsThere rules steps

  tree : TreeHolds rows
  tree = lawful_tree steps lawful.each

  rooted : IsRooted rows
  rooted = lawful_rooted steps lawful.each

  root : T 0
  root = (reading_told rules keys id steps).root

  pub around_there : (m n : ℕ) → T n → IsAround rows m n → T m
  around_there m n t a = elim (or_cases (eqb n m) (is_below rows m n) a) [
    | inl e ↦ subst T (eqb-true n m e) t
    | inr b ↦
        let less = (below_parts rows m n b).0 in
        let there = t.0 in
        let j : m < length rows = omega (arith, less, there) in
        (j, around_visible rules rows tree rooted m n j b)
  ]

  -- a path selects what its steps lead to
  path_selects : (absolute : Bool) (ss : List StepExpr) → Each IsBare ss → (m n : ℕ) → T (start_at absolute (alone m)) → Reach rules rows ss (start_at absolute (alone m)) n
      → Selects R (expr.Path (path_of absolute ss)) m n
  path_selects absolute ss bare m n t x = record {
    nodes = after rules rows ss (start_at absolute (alone m) ∷ []);
    value = path_known rules keys id steps whole [] (alone m) absolute ss bare t;
    member = has_after rules rows ss (start_at absolute (alone m) ∷ []) (start_at absolute (alone m)) n (member_here (start_at absolute (alone m)) []) x;
  }

  selects_path : (absolute : Bool) (ss : List StepExpr) → Each IsBare ss → (m n : ℕ) → T (start_at absolute (alone m)) → Selects R (expr.Path (path_of absolute ss)) m n
      → Reach rules rows ss (start_at absolute (alone m)) n
  selects_path absolute ss bare m n t s =
      let a : ℕ = start_at absolute (alone m) in
      let same = one_value _ s.nodes (after rules rows ss (a ∷ [])) s.value (path_known rules keys id steps whole [] (alone m) absolute ss bare t) in
      let w = after_has rules rows ss (a ∷ []) n (subst (λ ns. is_member n ns ≡ true) same s.member) in
      subst (λ k. Reach rules rows ss k n) (member_alone (w.0) a w.1) w.2

  abbrev path_with : PatternStart → List PatternStep → PatternPath
  path_with s ps = record { start = s; parts = ps }

  -- the start of a pattern, and its steps from there
  abbrev Comes : (ℕ → Bool) → List PatternStep → ℕ → Type 0
  Comes b ps n = (m : ℕ) × T m × (b m ≡ true) × Goes rules rows ps m n

  abbrev Selected : PatternStart → List PatternStep → ℕ → Type 0
  Selected s ps n = (m : ℕ) × IsAround rows m n × Selects R (expression_from s ps) m n

  as_selected : (s : PatternStart) (ps : List PatternStep) → Each IsPlainStep ps → (b : ℕ → Bool) → ((m : ℕ) → T m → starts R s m ≡ Known (b m)) → (n : ℕ) → T n
      → (Comes b ps n → Selected s ps n) → (Selected s ps n → Comes b ps n) → MatchesAsSelected rows R (path_with s ps) n
  as_selected s ps q b begins n t to back =
      let told = leads_told rules keys id steps lawful whole s b begins (reverse_aux ps []) (each_reversed IsPlainStep ps [] q tt) n t in
      record {
        matches = told.answer;
        known = ap (λ ms. leads R s ms n) (map_reversed ps []) ∙ told.known;
        selected = (
          (λ e.
              let w = told.means.0 e in
              let g = back_goes rules rows ps [] (w.0) n w.3 in
              to (w.0, w.1, w.2, subst (λ k. Goes rules rows ps k n) (sym g.1) g.2)),
          (λ x. let w = back x in told.means.1 (w.0, w.1, w.2, goes_back rules rows ps [] (w.0) (w.0) n refl w.3)),
        );
      }

  relative : (ps : List PatternStep) → Each IsPlainStep ps → (n : ℕ) → T n → MatchesAsSelected rows R (path_with start.Relative ps) n
  relative ps q n t = as_selected start.Relative ps q (λ m. true) (λ m u. refl) n t
      (λ w. (
        w.0,
        goes_around rules rows tree rooted ps (w.0) n t.0 w.3,
        path_selects false (steps_in ps) (steps_bare ps q) (w.0) n w.1 (goes_reach rules rows tree rooted ps q (w.0) n w.3),
      ))
      (λ x.
      let u = around_there (x.0) n t x.1 in
      (x.0, u, refl, reach_goes rules rows tree rooted ps q (x.0) n (selects_path false (steps_in ps) (steps_bare ps q) (x.0) n u x.2)))

  from_root : (ps : List PatternStep) → Each IsPlainStep ps → (n : ℕ) → T n → MatchesAsSelected rows R (path_with start.Root ps) n
  from_root ps q n t = as_selected start.Root ps q (λ m. eqb m 0) (λ m u. refl) n t
      (λ w. (
        n,
        itself_around rows n,
        path_selects true (steps_in ps) (steps_bare ps q) n n root (subst (λ k. Reach rules rows (steps_in ps) k n) (eqb-true (w.0) 0 w.2) (goes_reach rules rows tree rooted ps q (w.0) n w.3)),
      ))
      (λ x. (0, root, refl, reach_goes rules rows tree rooted ps q 0 n (selects_path true (steps_in ps) (steps_bare ps q) (x.0) n root x.2)))

  -- an element is at any depth of the root
  below_root : (p : PatternStep) (ps : List PatternStep) (m n : ℕ) → T m → Goes rules rows (p ∷ ps) m n → is_on axis.DescendantOrSelf rows 0 m ≡ true
  below_root p ps m n t g = elim (cases_eq 0 m) [
    | inl e ↦ or_left (eqb 0 m) (is_descendant rows 0 m) (eq-eqb 0 m e)
    | inr ne ↦
        let extent = root_extent steps lawful.each in
        let there = t.0 in
        or_right (eqb 0 m) (is_descendant rows 0 m)
        (and_from (is_node rows m) (is_below rows 0 m) (ap not (parent_plain (row_at rows m).kind (goes_from rules rows tree rooted p ps m n t.0 g)))
        (below_from rows 0 m (omega (arith, ne)) (omega (arith, extent, there))))
  ]

  anywhere : (ps : List PatternStep) → Each IsPlainStep ps → (ps ≡ [] → ⊥) → (n : ℕ) → T n → MatchesAsSelected rows R (path_with start.Deep ps) n
  anywhere [] q led n t = absurd (led refl)
  anywhere (p ∷ ps) q led n t = as_selected start.Deep (p ∷ ps) q (λ m. true) (λ m u. refl) n t
      (λ w. (
        n,
        itself_around rows n,
        path_selects true (any_depth ∷ steps_in (p ∷ ps)) (refl, steps_bare (p ∷ ps) q) n n root (
          w.0,
          is_selected_by rules rows 0 axis.DescendantOrSelf any.Any (w.0) (record { joined = (w.1).0; visible = (w.1).1; meets = refl; on = below_root p ps (w.0) n w.1 w.3 }),
          goes_reach rules rows tree rooted (p ∷ ps) q (w.0) n w.3,
        ),
      ))
      (λ x.
      let r = selects_path true (any_depth ∷ steps_in (p ∷ ps)) (refl, steps_bare (p ∷ ps) q) (x.0) n root x.2 in
      let s = selected_is rules rows 0 axis.DescendantOrSelf any.Any (r.0) r.1 in
      (r.0, (s.joined, s.visible), refl, reach_goes rules rows tree rooted (p ∷ ps) q (r.0) n r.2))

  -- behind a call the steps lead on from the nodes that it finds
  called : (s : PatternStart) (ps : List PatternStep) → Each IsPlainStep ps → (found : List ℕ) → Each T found → ((m : ℕ) → T m → starts R s m ≡ Known (is_member m found))
      → ((m : ℕ) → evaluation_of R (expression_from s ps) [] (alone m) ≡ Known (Nodes (after rules rows (steps_in ps) (document_order found)))) → (n : ℕ) → T n
      → MatchesAsSelected rows R (path_with s ps) n
  called s ps q found a begins value n t = as_selected s ps q (λ m. is_member m found) begins n t
      (λ w. (
        n,
        itself_around rows n,
        record {
          nodes = after rules rows (steps_in ps) (document_order found);
          value = value n;
          member = has_after rules rows (steps_in ps) (document_order found) (w.0) n (order_members found (w.0) ∙ w.2) (goes_reach rules rows tree rooted ps q (w.0) n w.3);
        },
      ))
      (λ x.
      let same = one_value _ (x.2).nodes (after rules rows (steps_in ps) (document_order found)) (x.2).value (value (x.0)) in
      let w = after_has rules rows (steps_in ps) (document_order found) n (subst (λ ns. is_member n ns ≡ true) same (x.2).member) in
      let here = sym (order_members found (w.0)) ∙ w.1 in
      (w.0, member_has T found (w.0) a here, here, reach_goes rules rows tree rooted ps q (w.0) n w.2))

  by_ids : (ids : List ℕ) (ps : List PatternStep) → Each IsPlainStep ps → (n : ℕ) → T n → MatchesAsSelected rows R (path_with (start.Id ids) ps) n
  by_ids ids ps q n t =
      let there = named_there rules keys id steps whole ids in
      called (start.Id ids) ps q (named rules keys id steps whole ids) there (λ m u. found_by_ids rules keys id steps whole ids m)
      (λ m. call_known rules keys id steps whole (call_of_id ids) (named rules keys id steps whole ids) (id_call rules keys id steps whole ids) there ps q (alone m)) n t

  by_key : (name : NameRef) (value : List ℕ) (ps : List PatternStep) → Each IsPlainStep ps → LooksUpWithoutFault R (start.Key name value) → (n : ℕ) → T n
      → MatchesAsSelected rows R (path_with (start.Key name value) ps) n
  by_key name value ps q safe n t = by_slot name.slot refl
    where
      by_found : (key : ℕ) → name.slot ≡ Some key → (o : Outcome (List ℕ)) → R.by_key key value ≡ o → MatchesAsSelected rows R (path_with (start.Key name value) ps) n
      by_found key slot (Known found) is =
          let there = key_there rules keys id steps whole key value found is in
          called (start.Key name value) ps q found there (λ m u. found_by rules keys id steps whole name value key found m slot is)
          (λ m. call_known rules keys id steps whole (call_of_key name value) found (λ c. key_call rules keys id steps whole name value key found c slot is) there ps q (alone m)) n t
      by_found key slot (Fault f) is = absurd (safe key f slot is)
      by_found key slot (Open m) is = absurd (nothing_open steps (Each T) (R.by_key key value) m whole ((reading_told rules keys id steps).by_key key value) is)

      by_slot : (slot : Option ℕ) → name.slot ≡ slot → MatchesAsSelected rows R (path_with (start.Key name value) ps) n
      by_slot (Some key) slot = by_found key slot (R.by_key key value) refl
      by_slot None slot = as_selected (start.Key name value) ps q (λ m. false) (λ m u. ap (λ s. starts R (start.Key (record name { slot = s }) value) m) slot) n t
          (λ w. absurd (false≢true w.2))
          (λ x. absurd (no_key rules keys id steps whole name value ps (alone (x.0)) (x.2).nodes slot (x.2).value))

  by_start : (s : PatternStart) (ps : List PatternStep) → Each IsPlainStep ps → (s ≡ start.Deep → ps ≡ [] → ⊥) → LooksUpWithoutFault R s → (n : ℕ) → T n → MatchesAsSelected rows R (path_with s ps) n
  by_start start.Relative ps q led safe n t = relative ps q n t
  by_start start.Root ps q led safe n t = from_root ps q n t
  by_start start.Deep ps q led safe n t = anywhere ps q (led refl) n t
  by_start (start.Id ids) ps q led safe n t = by_ids ids ps q n t
  by_start (start.Key name value) ps q led safe n t = by_key name value ps q safe n t

  pub path_matches : (path : PatternPath) → IsPlain path → LooksUpWithoutFault R path.start → (n : ℕ) → T n → MatchesAsSelected rows R path n
  path_matches path plain safe n t = by_start path.start path.parts plain.steps plain.led safe n t
