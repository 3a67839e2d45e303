-- What a pattern that starts with a call selects as an expression.
use Rattle.std.proofs.Common.{◌≡◌, sym, ap, ◌∙◌, subst, ℕ, false, List, [], ◌∷◌, map, append-nil, Option, Some, None}
use Rattle.std.specs.Prelude.{codes}
use Rattle.doc_model.specs.declared.step.Step.{Step}
use Rattle.doc_model.specs.declared.strip_rule.StripRule.{StripRule}
use Rattle.doc_model.specs.Answers.{Fault, Known}
use Rattle.doc_model.specs.Document.{is_member}
use Rattle.doc_model.specs.Lawful.{IsComplete}
use Rattle.doc_model.specs.Rows.{rows_of}
use Rattle.fault_kinds.specs.declared.fault.FaultKind.TheVariants.{NotNodeSet}
use Rattle.sheet_ast.specs.declared.sheet.KeyDecl.{KeyDecl}
use Rattle.xpath_funcs.specs.Spaces.{words}
use Rattle.xpath_grammar.specs.Grammar.{filtered, path_of}
use Rattle.xpath_laws.specs.Sound.{Anything, Each, IsOpen, IsThere, Tells}
use Rattle.xpath_laws.proofs.Equations.{call_means, literal_means, tail_means}
use Rattle.xpath_laws.proofs.Says.{each_anything}
use Rattle.xpath_laws.proofs.Tells.{joined_each, ordered_set}
use Rattle.xpath_laws.proofs.There.{reading_told}
use Rattle.xpath_meaning.specs.declared.context.Context.{Context}
use Rattle.xpath_meaning.specs.Conversions.{nodes_of, text}
use Rattle.xpath_meaning.specs.DocumentOrder.{document_order}
use Rattle.xpath_meaning.specs.Evaluation.{evaluation_of, filter_value, meant, meant_step}
use Rattle.xpath_meaning.specs.Functions.{found_by_key, looked_up, named_by_ids, qualified}
use Rattle.xpath_meaning.specs.Keys.{id_rows}
use Rattle.xpath_meaning.specs.Match.{is_found_by_ids, is_found_by_key}
use Rattle.xpath_meaning.specs.Meanings.{Meant, MeantPath}
use Rattle.xpath_meaning.specs.Outcome.{Outcome, ◌>>=◌, each_of}
use Rattle.xpath_meaning.specs.Reading.{Reading}
use Rattle.xpath_meaning.specs.Readings.{reading_of}
use Rattle.xpath_meaning.specs.Steps.{joined, steps_nodes}
use Rattle.xpath_syntax.specs.declared.expression.Expr.{Expr}
use Rattle.xpath_syntax.specs.declared.expression.Expr.TheVariants as expr
use Rattle.xpath_syntax.specs.declared.expression.NameRef.{NameRef}
use Rattle.xpath_syntax.specs.declared.pattern.PatternStep.{PatternStep}
use Rattle.xpath_values.specs.declared.value.Value.{Value}
use Rattle.xpath_values.specs.declared.value.Value.TheVariants.{Nodes}
use Rattle.pattern_laws.specs.Reading.{call_of_id, call_of_key, function_named, path_behind, steps_in}
use Rattle.pattern_laws.specs.Selecting.{IsPlainStep}
use Rattle.pattern_laws.proofs.Known.{id_known, whole_known}
use Rattle.pattern_laws.proofs.Leading.{steps_bare}
use Rattle.pattern_laws.proofs.Members.{each_known}
use Rattle.pattern_laws.proofs.Paths.{after, path_means_steps, steps_known}

literal_value : (R : Reading) (bytes : List ℕ) (c : Context) → (meant (expr.Literal bytes)).value R [] c ≡ Known (text bytes)
literal_value R bytes c = ap (λ (m : Meant). m.value R [] c) (literal_means bytes)

pub map_each : {A : Type 0} (T : ℕ → Type 0) (g : A → List ℕ) (xs : List A) → ((x : A) → Each T (g x)) → Each (Each T) (map g xs)
map_each T g [] h = tt
map_each T g (x ∷ xs) h = (h x, map_each T g xs h)

module _ (rules : List StripRule) (keys : List KeyDecl) (id : Option (List ℕ)) (steps : List Step) (whole : IsComplete steps) where
  abbrev R : Reading
  R = reading_of rules keys id steps

  -- the nodes of a call, and of the steps behind it
  pub call_known : (call : Expr) (found : List ℕ) → ((c : Context) → evaluation_of R call [] c ≡ Known (Nodes (document_order found))) → Each (IsThere rules steps) found
      → (ps : List PatternStep) → Each IsPlainStep ps → (c : Context)
      → evaluation_of R (filtered call [] (path_behind ps)) [] c ≡ Known (Nodes (after rules (rows_of steps) (steps_in ps) (document_order found)))
  call_known call found h a [] q c = h c
  call_known call found h a (p ∷ ps) q c =
      ap (λ (m : Meant). m.value R [] c) (tail_means call [] (path_of false (steps_in (p ∷ ps))))
      ∙ ap (λ (path : MeantPath). filter_value (meant call) [] (Some path) R [] c) (path_means_steps false (steps_in (p ∷ ps)))
      ∙ ap (λ (o : Outcome Value). (o >>= nodes_of) >>= (λ nodes. steps_nodes (map meant_step (steps_in (p ∷ ps))) nodes R [] c >>= (λ ns. Known (Nodes ns)))) (h c)
      ∙ ap (λ (o : Outcome (List ℕ)). o >>= (λ ns. Known (Nodes ns)))
      (steps_known rules keys id steps whole [] c (steps_in (p ∷ ps)) (steps_bare (p ∷ ps) q) (document_order found) (ordered_set (IsThere rules steps) found a).1)

  -- what IDs name
  abbrev pub named : List ℕ → List ℕ
  named ids = joined (map (id_rows id (rows_of steps)) (words ids))

  ids_known : (ids : List ℕ) → each_of (λ value. R.by_id value) (words ids) ≡ Known (map (id_rows id (rows_of steps)) (words ids))
  ids_known ids = each_known (λ value. R.by_id value) (id_rows id (rows_of steps)) Anything (words ids) (each_anything (words ids)) (λ value any. id_known rules keys id steps whole value)

  pub found_by_ids : (ids : List ℕ) (n : ℕ) → is_found_by_ids R ids n ≡ Known (is_member n (named ids))
  found_by_ids ids n =
      ap (λ (o : Outcome (Unit {0})). o >>= (λ shut. each_of (λ value. R.by_id value) (words ids) >>= (λ lists. Known (is_member n (joined lists))))) (whole_known rules keys id steps whole)
      ∙ ap (λ (o : Outcome (List (List ℕ))). o >>= (λ lists. Known (is_member n (joined lists)))) (ids_known ids)

  pub id_call : (ids : List ℕ) (c : Context) → evaluation_of R (call_of_id ids) [] c ≡ Known (Nodes (document_order (named ids)))
  id_call ids c =
      ap (λ (m : Meant). m.value R [] c) (call_means (function_named (codes "id") (Some []) None) (expr.Literal ids ∷ []))
      ∙ ap (λ (o : Outcome Value). o >>= named_by_ids R) (literal_value R ids c)
      ∙ ap (λ (texts : List (List ℕ)). looked_up R (λ value. R.by_id value) texts) (append-nil (words ids))
      ∙ ap (λ (o : Outcome (Unit {0})). o >>= (λ shut. each_of (λ value. R.by_id value) (words ids) >>= (λ lists. Known (Nodes (document_order (joined lists))))))
      (whole_known rules keys id steps whole)
      ∙ ap (λ (o : Outcome (List (List ℕ))). o >>= (λ lists. Known (Nodes (document_order (joined lists))))) (ids_known ids)

  pub named_there : (ids : List ℕ) → Each (IsThere rules steps) (named ids)
  named_there ids = joined_each (IsThere rules steps) _ (map_each (IsThere rules steps) (id_rows id (rows_of steps)) (words ids) (λ value.
      subst (Tells (IsOpen steps) (Each (IsThere rules steps))) (id_known rules keys id steps whole value) ((reading_told rules keys id steps).by_id value)))

  -- what a key finds
  pub found_by : (name : NameRef) (value : List ℕ) (key : ℕ) (found : List ℕ) (n : ℕ) → name.slot ≡ Some key → R.by_key key value ≡ Known found
      → is_found_by_key R name.slot value n ≡ Known (is_member n found)
  found_by name value key found n slot is =
      ap (λ (s : Option ℕ). is_found_by_key R s value n) slot ∙ ap (λ (o : Outcome (List ℕ)). o >>= (λ nodes. Known (is_member n nodes))) is

  key_value : (name : NameRef) (value : List ℕ) (slot : Option ℕ) (c : Context) → name.slot ≡ slot → evaluation_of R (call_of_key name value) [] c ≡ found_by_key R slot (text value)
  key_value name value slot c is =
      ap (λ (m : Meant). m.value R [] c) (call_means (function_named (codes "key") name.uri name.slot) (expr.Literal (qualified name.prefix name.local) ∷ expr.Literal value ∷ []))
      ∙ ap (λ (o : Outcome Value). o >>= found_by_key R name.slot) (literal_value R value c)
      ∙ ap (λ (s : Option ℕ). found_by_key R s (text value)) is

  pub key_call : (name : NameRef) (value : List ℕ) (key : ℕ) (found : List ℕ) (c : Context) → name.slot ≡ Some key → R.by_key key value ≡ Known found
      → evaluation_of R (call_of_key name value) [] c ≡ Known (Nodes (document_order found))
  key_call name value key found c slot is =
      key_value name value (Some key) c slot
      ∙ ap (λ (o : Outcome (Unit {0})). o >>= (λ shut. each_of (λ v. R.by_key key v) (value ∷ []) >>= (λ lists. Known (Nodes (document_order (joined lists))))))
      (whole_known rules keys id steps whole)
      ∙ ap (λ (o : Outcome (List ℕ)). (o >>= (λ y. Known (y ∷ []))) >>= (λ lists. Known (Nodes (document_order (joined lists))))) is
      ∙ ap (λ (ns : List ℕ). Known (Nodes (document_order ns))) (append-nil found)

  pub key_there : (key : ℕ) (value found : List ℕ) → R.by_key key value ≡ Known found → Each (IsThere rules steps) found
  key_there key value found is = subst (Tells (IsOpen steps) (Each (IsThere rules steps))) is ((reading_told rules keys id steps).by_key key value)

  -- a key that there is not gives no node
  pub no_key : (name : NameRef) (value : List ℕ) (ps : List PatternStep) (c : Context) (nodes : List ℕ) → name.slot ≡ None
      → evaluation_of R (filtered (call_of_key name value) [] (path_behind ps)) [] c ≡ Known (Nodes nodes) → ⊥
  no_key name value [] c nodes slot is = let e : Known (text []) ≡ Known (Nodes nodes) = sym (key_value name value None c slot) ∙ is in absurd cc
  no_key name value (p ∷ ps) c nodes slot is =
      let e : ◌≡◌ {A = Outcome Value} (Fault NotNodeSet) (Known (Nodes nodes)) =
      sym (ap (λ (m : Meant). m.value R [] c) (tail_means (call_of_key name value) [] (path_of false (steps_in (p ∷ ps))))
      ∙ ap (λ (path : MeantPath). filter_value (meant (call_of_key name value)) [] (Some path) R [] c) (path_means_steps false (steps_in (p ∷ ps)))
      ∙ ap (λ (o : Outcome Value). (o >>= nodes_of) >>= (λ ns. steps_nodes (map meant_step (steps_in (p ∷ ps))) ns R [] c >>= (λ ms. Known (Nodes ms))))
      (key_value name value None c slot)) ∙ is in
      absurd cc
