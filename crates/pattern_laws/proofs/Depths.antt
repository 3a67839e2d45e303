-- What `//` leads to.
use Rattle.std.proofs.Common.{◌≡◌, refl, sym, ap, ◌∙◌, subst, ℕ, Bool, true, eqb, List, [], ◌∷◌, map, Option, inl, inr}
use Rattle.std.proofs.lemmas.Bool.{and_from, and_parts, eq-eqb, eqb-true, or_left, or_right}
use Rattle.doc_model.specs.declared.node_test.Test.TheVariants as any
use Rattle.doc_model.specs.declared.row.Axis.TheVariants as axis
use Rattle.doc_model.specs.declared.row.Kind.TheVariants as kind
use Rattle.doc_model.specs.declared.row.Row.{Row}
use Rattle.doc_model.specs.declared.step.Step.{Step}
use Rattle.doc_model.specs.declared.strip_rule.StripRule.{StripRule}
use Rattle.doc_model.specs.Answers.{Known}
use Rattle.doc_model.specs.Axes.{is_below, is_descendant, is_node}
use Rattle.doc_model.specs.Document.{is_member}
use Rattle.doc_model.specs.Lawful.{IsComplete, IsLawful}
use Rattle.doc_model.specs.Relations.{is_some_of, parent_of}
use Rattle.doc_model.specs.NodeTests.{meets}
use Rattle.doc_model.specs.Rows.{row_at, rows_of}
use Rattle.doc_model.specs.Subtree.{IsDescendant}
use Rattle.doc_laws.proofs.Ancestors.{descendant_words, same_truth, words_descendant}
use Rattle.doc_laws.proofs.Kids.{is_some_of-true}
use Rattle.doc_laws.proofs.Rooted.{IsRooted, lawful_rooted}
use Rattle.doc_laws.proofs.Sound.{TreeHolds, lawful_tree}
use Rattle.sheet_ast.specs.declared.sheet.KeyDecl.{KeyDecl}
use Rattle.xpath_grammar.specs.Grammar.{any_depth, path_of, step_of}
use Rattle.xpath_laws.specs.Sound.{Each, IsContext, IsThere}
use Rattle.xpath_laws.proofs.Order.{one_order, or_cases, order_ascends}
use Rattle.xpath_laws.proofs.Tells.{member_has}
use Rattle.xpath_meaning.specs.declared.context.Context.{Context}
use Rattle.xpath_meaning.specs.Evaluation.{meant_step}
use Rattle.xpath_meaning.specs.Outcome.{Outcome, ◌>>=◌}
use Rattle.xpath_meaning.specs.Readings.{reading_of}
use Rattle.xpath_meaning.specs.Steps.{joined, step_nodes, steps_nodes}
use Rattle.xpath_meaning.specs.Tests.{test_of}
use Rattle.xpath_syntax.specs.declared.expression.AxisName.TheVariants as name
use Rattle.xpath_syntax.specs.declared.expression.Expr.TheVariants as expr
use Rattle.xpath_syntax.specs.declared.expression.StepExpr.{StepExpr}
use Rattle.xpath_syntax.specs.declared.expression.TestExpr.{TestExpr}
use Rattle.xpath_values.specs.declared.value.Value.{Value}
use Rattle.xpath_values.specs.declared.value.Value.TheVariants.{Nodes}
use Rattle.pattern_laws.specs.Selecting.{GoesOnFromAnyDepth, SelectsExactly, start_at}
use Rattle.pattern_laws.proofs.Members.{member_alone, member_here}
use Rattle.pattern_laws.proofs.Paths.{found_by, has_next, next, next_has, path_known, start_there, step_known, steps_known}
use Rattle.pattern_laws.proofs.Rowwise.{is_selected_by, over, parent_selected, selected_is, under}

abbrev pub child : TestExpr → StepExpr
child test = step_of name.Child test []

abbrev pub descendant : TestExpr → StepExpr
descendant test = step_of name.Descendant test []

module _ (rules : List StripRule) (rows : List Row) (t : TreeHolds rows) (r : IsRooted rows) (test : TestExpr) where
  -- a child of what is at any depth
  pub child_down : (m a k : ℕ) → is_member a (found_by rules rows any_depth m) ≡ true → is_member k (found_by rules rows (child test) a) ≡ true
      → is_member k (found_by rules rows (descendant test) m) ≡ true
  child_down m a k h i =
      let d = selected_is rules rows m axis.DescendantOrSelf any.Any a h in
      let s = selected_is rules rows a axis.Child (test_of test) k i in
      let p = and_parts (is_node rows k) (is_some_of (parent_of rows k) a) s.on in
      is_selected_by rules rows m axis.Descendant (test_of test) k (record {
        joined = s.joined;
        visible = s.visible;
        meets = s.meets;
        on = and_from (is_node rows k) (is_below rows m k) p.0 (under rows t r m a k s.joined (is_some_of-true (parent_of rows k) a p.1) d.on);
      })

  pub down_child : (m k : ℕ) → is_member k (found_by rules rows (descendant test) m) ≡ true
      → (a : ℕ) × (is_member a (found_by rules rows any_depth m) ≡ true) × (is_member k (found_by rules rows (child test) a) ≡ true)
  down_child m k h =
      let s = selected_is rules rows m axis.Descendant (test_of test) k h in
      let p = and_parts (is_node rows k) (is_below rows m k) s.on in
      let o = over rows t r m k s.joined p.1 in (
        o.0,
        is_selected_by rules rows m axis.DescendantOrSelf any.Any (o.0) (parent_selected rows t r rules m (o.0) k axis.DescendantOrSelf s.joined o.1 o.2),
        is_selected_by rules rows (o.0) axis.Child (test_of test) k (record {
          joined = s.joined;
          visible = s.visible;
          meets = s.meets;
          on = and_from (is_node rows k) (is_some_of (parent_of rows k) (o.0)) p.0 (ap (λ q. is_some_of q (o.0)) o.1 ∙ eq-eqb (o.0) (o.0) refl);
        }),
      )

  pub same_nodes : (ns : List ℕ) → next rules rows (child test) (next rules rows any_depth ns) ≡ next rules rows (descendant test) ns
  same_nodes ns = one_order 0 0 _ _ (order_ascends (joined (map (found_by rules rows (child test)) (next rules rows any_depth ns))))
      (order_ascends (joined (map (found_by rules rows (descendant test)) ns))) (λ k. same_truth _ _
      (λ h.
      let w = next_has rules rows (child test) (next rules rows any_depth ns) k h in
      let v = next_has rules rows any_depth ns w.0 w.1 in
      has_next rules rows (descendant test) ns v.0 k v.1 (child_down v.0 w.0 k v.2 w.2))
      (λ h.
      let w = next_has rules rows (descendant test) ns k h in
      let v = down_child w.0 k w.2 in
      has_next rules rows (child test) (next rules rows any_depth ns) v.0 k (has_next rules rows any_depth ns w.0 v.0 w.1 v.1) v.2))

pub depths_are : (rules : List StripRule) (keys : List KeyDecl) (id : Option (List ℕ)) (steps : List Step) (nodes : List ℕ) (values : List Value) (c : Context)
    → IsLawful steps → IsComplete steps → Each (IsThere rules steps) nodes → GoesOnFromAnyDepth rules steps (reading_of rules keys id steps) nodes values c
depths_are rules keys id steps nodes values c l w a =
    let rows = rows_of steps in
    let t = lawful_tree steps l.each in
    record {
      within = next rules rows any_depth nodes;
      members = λ k. (
        (λ h.
            let v = next_has rules rows any_depth nodes k h in
            let there = member_has (IsThere rules steps) nodes (v.0) a v.1 in
            let d = selected_is rules rows (v.0) axis.DescendantOrSelf any.Any k v.2 in (
              (d.joined, d.visible),
              (
                v.0,
                v.1,
                elim (or_cases (eqb (v.0) k) (is_descendant rows (v.0) k) d.on) [
                  | inl e ↦ inl (sym (eqb-true (v.0) k e))
                  | inr i ↦ inr (descendant_words rows t (v.0) k there.0 d.joined i)
                ],
              ),
            )),
        (λ h.
            let v = h.1 in
            let there = member_has (IsThere rules steps) nodes (v.0) a v.1 in
            has_next rules rows any_depth nodes (v.0) k v.1 (is_selected_by rules rows (v.0) axis.DescendantOrSelf any.Any k (record {
              joined = (h.0).0;
              visible = (h.0).1;
              meets = refl;
              on = elim v.2 [
                | inl e ↦ or_left (eqb (v.0) k) (is_descendant rows (v.0) k) (eq-eqb (v.0) k (sym e))
                | inr i ↦ or_right (eqb (v.0) k) (is_descendant rows (v.0) k) (words_descendant rows t (v.0) k there.0 (h.0).0 i)
              ];
            }))),
      );
      same = λ rest. ap (λ (o : Outcome (List ℕ)). o >>= (λ found. steps_nodes rest found (reading_of rules keys id steps) values c))
          (step_known rules keys id steps w values c any_depth refl nodes a);
    }

pub slashes_are : (rules : List StripRule) (keys : List KeyDecl) (id : Option (List ℕ)) (steps : List Step) (test : TestExpr) (nodes : List ℕ) (values : List Value) (c : Context)
    → IsLawful steps → IsComplete steps → Each (IsThere rules steps) nodes
    → steps_nodes (meant_step any_depth ∷ meant_step (child test) ∷ []) nodes (reading_of rules keys id steps) values c
    ≡ step_nodes (meant_step (descendant test)) nodes (reading_of rules keys id steps) values c
slashes_are rules keys id steps test nodes values c l w a =
    steps_known rules keys id steps w values c (any_depth ∷ child test ∷ []) (refl, (refl, tt)) nodes a
    ∙ ap Known (same_nodes rules (rows_of steps) (lawful_tree steps l.each) (lawful_rooted steps l.each) test nodes)
    ∙ sym (step_known rules keys id steps w values c (descendant test) refl nodes a)

pub descendants_are : (rules : List StripRule) (keys : List KeyDecl) (id : Option (List ℕ)) (steps : List Step) (absolute : Bool) (test : TestExpr) (values : List Value) (c : Context)
    → IsLawful steps → IsComplete steps → IsContext (IsThere rules steps) c
    → SelectsExactly (reading_of rules keys id steps) (expr.Path (path_of absolute (any_depth ∷ child test ∷ []))) values c
    (λ k. IsThere rules steps k × IsDescendant (rows_of steps) (start_at absolute c) k × (meets kind.Element (test_of test) (row_at (rows_of steps) k) ≡ true))
descendants_are rules keys id steps absolute test values c l w x =
    let rows = rows_of steps in
    let t = lawful_tree steps l.each in
    let r = lawful_rooted steps l.each in
    let s : ℕ = start_at absolute c in
    let there = start_there rules keys id steps absolute c x in
    record {
      nodes = next rules rows (descendant test) (s ∷ []);
      value = path_known rules keys id steps w values c absolute (any_depth ∷ child test ∷ []) (refl, (refl, tt)) there
          ∙ ap (λ ns. Known (Nodes ns)) (same_nodes rules rows t r test (s ∷ []));
      members = λ k. (
        (λ h.
            let v = next_has rules rows (descendant test) (s ∷ []) k h in
            let d = selected_is rules rows s axis.Descendant (test_of test) k (subst (λ m. is_member k (found_by rules rows (descendant test) m) ≡ true) (member_alone v.0 s v.1) v.2) in
            ((d.joined, d.visible), descendant_words rows t s k there.0 d.joined d.on, d.meets)),
        (λ h. has_next rules rows (descendant test) (s ∷ []) s k (member_here s [])
            (is_selected_by rules rows s axis.Descendant (test_of test) k (record {
              joined = (h.0).0;
              visible = (h.0).1;
              meets = h.2;
              on = words_descendant rows t s k there.0 (h.0).0 h.1;
            }))),
      );
    }
