-- A pattern of several alternatives matches what one of them selects.
use Rattle.std.proofs.Common.{◌≡◌, refl, sym, ap, ◌∙◌, subst, ℕ, Bool, true, false, cond, List, [], ◌∷◌, ◌++◌, Option, Some, inl, inr, ◌⊎◌}
use Rattle.std.proofs.lemmas.Bool.{false≢true}
use Rattle.doc_model.specs.declared.step.Step.{Step}
use Rattle.doc_model.specs.declared.strip_rule.StripRule.{StripRule}
use Rattle.doc_model.specs.Answers.{Fault, Known, Open}
use Rattle.doc_model.specs.Document.{is_member}
use Rattle.doc_model.specs.Lawful.{IsComplete, IsLawful}
use Rattle.doc_model.specs.Rows.{rows_of}
use Rattle.sheet_ast.specs.declared.sheet.KeyDecl.{KeyDecl}
use Rattle.xpath_grammar.specs.Grammar.{any_depth}
use Rattle.xpath_laws.specs.Sound.{Each, IsThere}
use Rattle.xpath_laws.proofs.Complete.{nothing_open}
use Rattle.xpath_laws.proofs.Equations.{binary_means}
use Rattle.xpath_laws.proofs.Order.{order_members}
use Rattle.xpath_laws.proofs.There.{reading_told}
use Rattle.xpath_meaning.specs.Conversions.{nodes_of}
use Rattle.xpath_meaning.specs.DocumentOrder.{document_order}
use Rattle.xpath_meaning.specs.Evaluation.{evaluation_of}
use Rattle.xpath_meaning.specs.Keys.{alone}
use Rattle.xpath_meaning.specs.Match.{match_path}
use Rattle.xpath_meaning.specs.Meanings.{Meant}
use Rattle.xpath_meaning.specs.Outcome.{Outcome, ◌>>=◌, some_holds}
use Rattle.xpath_meaning.specs.Reading.{Reading}
use Rattle.xpath_meaning.specs.Readings.{reading_of}
use Rattle.xpath_syntax.specs.declared.expression.Expr.{Expr}
use Rattle.xpath_syntax.specs.declared.expression.Expr.TheVariants as expr
use Rattle.xpath_syntax.specs.declared.expression.Op.TheVariants as op
use Rattle.xpath_syntax.specs.declared.pattern.PatternPath.{PatternPath}
use Rattle.xpath_syntax.specs.declared.pattern.PatternStart.{PatternStart}
use Rattle.xpath_syntax.specs.declared.pattern.PatternStart.TheVariants as start
use Rattle.xpath_syntax.specs.declared.pattern.PatternStep.{PatternStep}
use Rattle.xpath_values.specs.declared.value.Value.{Value}
use Rattle.xpath_values.specs.declared.value.Value.TheVariants.{Nodes}
use Rattle.pattern_laws.specs.Reading.{call_of_id, call_of_key, expression_from, expression_of, steps_in, with_alternatives}
use Rattle.pattern_laws.specs.Selecting.{IsAround, IsPlainAlternative, IsPlainStep, LooksUp, LooksUpWithoutFault, PatternMatchesAsSelected, Selects}
use Rattle.pattern_laws.proofs.Calling.{call_known, id_call, key_call, key_there, named, named_there}
use Rattle.pattern_laws.proofs.Leading.{steps_bare}
use Rattle.pattern_laws.proofs.Members.{in_either, in_left, in_right}
use Rattle.pattern_laws.proofs.Paths.{path_known}
use Rattle.pattern_laws.proofs.Starting.{around_there, one_value, path_matches}
use Rattle.pattern_laws.proofs.Telling.{Told}

-- it holds of one of a list
abbrev pub SomeOf : {A : Type 0} → (A → Type 0) → List A → Type 0
SomeOf P [] = ⊥
SomeOf P (x ∷ xs) = P x ⊎ SomeOf P xs

some_as : {A : Type 0} (P Q : A → Type 0) (xs : List A) → ((x : A) → P x → Q x) → SomeOf P xs → SomeOf Q xs
some_as P Q [] h s = s
some_as P Q (x ∷ xs) h s = elim s [ inl p ↦ inl (h x p) | inr r ↦ inr (some_as P Q xs h r) ]

told_any : {A : Type 0} (f : A → Outcome Bool) (P T : A → Type 0) (xs : List A) → Each T xs → ((x : A) → T x → Told (f x) (P x)) → Told (some_holds f xs) (SomeOf P xs)
told_any f P T [] a h = record { answer = false; known = refl; means = (λ e. absurd (false≢true e), λ w. absurd w) }
told_any {A} f P T (x ∷ xs) a h = by (h x a.0) (told_any f P T xs a.1 h) ((h x a.0).answer) refl
  where
    by : (t : Told (f x) (P x)) → Told (some_holds f xs) (SomeOf P xs) → (b : Bool) → t.answer ≡ b → Told (some_holds f (x ∷ xs)) (SomeOf P (x ∷ xs))
    by t u true e = record {
      answer = true;
      known = ap (λ (o : Outcome Bool). o >>= (λ here. cond here (Known true) (some_holds f xs))) (t.known ∙ ap Known e);
      means = (λ h. inl (t.means.0 e), λ w. refl);
    }
    by t u false e = record {
      answer = u.answer;
      known = ap (λ (o : Outcome Bool). o >>= (λ here. cond here (Known true) (some_holds f xs))) (t.known ∙ ap Known e) ∙ u.known;
      means = (λ h. inr (u.means.0 h), λ w. elim w [ inl p ↦ absurd (false≢true (sym e ∙ t.means.1 p)) | inr r ↦ u.means.1 r ]);
    }

module _ (R : Reading) (m : ℕ) where
  -- the value is known, and a set of nodes
  abbrev pub HasNodes : Expr → Type 0
  HasNodes e = (nodes : List ℕ) × (evaluation_of R e [] (alone m) ≡ Known (Nodes nodes))

  union_value : (a b : Expr) (v : HasNodes a) (w : HasNodes b) → evaluation_of R (expr.Binary op.Union a b) [] (alone m) ≡ Known (Nodes (document_order (v.0 ++ w.0)))
  union_value a b v w =
      ap (λ (k : Meant). k.value R [] (alone m)) (binary_means op.Union a b)
      ∙ ap (λ (o : Outcome Value). (o >>= nodes_of) >>= (λ x. (evaluation_of R b [] (alone m) >>= nodes_of) >>= (λ y. Known (Nodes (document_order (x ++ y)))))) v.1
      ∙ ap (λ (o : Outcome Value). (o >>= nodes_of) >>= (λ y. Known (Nodes (document_order (v.0 ++ y))))) w.1

  union_has : (a b : Expr) → HasNodes a → HasNodes b → HasNodes (expr.Binary op.Union a b)
  union_has a b v w = (document_order (v.0 ++ w.0), union_value a b v w)

  union_selects : (a b : Expr) → HasNodes a → HasNodes b → (n : ℕ) → (Selects R a m n ⊎ Selects R b m n) → Selects R (expr.Binary op.Union a b) m n
  union_selects a b v w n s = record {
    nodes = document_order (v.0 ++ w.0);
    value = union_value a b v w;
    member = order_members (v.0 ++ w.0) n ∙ elim s [
      | inl x ↦ in_left n (v.0) (w.0) (subst (λ ns. is_member n ns ≡ true) (one_value _ x.nodes (v.0) x.value v.1) x.member)
      | inr y ↦ in_right n (v.0) (w.0) (subst (λ ns. is_member n ns ≡ true) (one_value _ y.nodes (w.0) y.value w.1) y.member)
    ];
  }

  selects_union : (a b : Expr) → HasNodes a → HasNodes b → (n : ℕ) → Selects R (expr.Binary op.Union a b) m n → Selects R a m n ⊎ Selects R b m n
  selects_union a b v w n s =
      let same = one_value _ s.nodes (document_order (v.0 ++ w.0)) s.value (union_value a b v w) in
      let here = sym (order_members (v.0 ++ w.0) n) ∙ subst (λ ns. is_member n ns ≡ true) same s.member in
      elim (in_either n (v.0) (w.0) here) [
        | inl l ↦ inl (record { nodes = v.0; value = v.1; member = l })
        | inr r ↦ inr (record { nodes = w.0; value = w.1; member = r })
      ]

  abbrev pub PathHas : PatternPath → Type 0
  PathHas path = HasNodes (expression_of path)

  abbrev pub PathSelects : ℕ → PatternPath → Type 0
  PathSelects n path = Selects R (expression_of path) m n

  pub all_select : (e : Expr) → HasNodes e → (paths : List PatternPath) → Each PathHas paths → (n : ℕ) → Selects R e m n ⊎ SomeOf (PathSelects n) paths → Selects R (with_alternatives e paths) m n
  all_select e v [] a n s = elim s [ inl x ↦ x | inr z ↦ absurd z ]
  all_select e v (path ∷ paths) a n s = all_select (expr.Binary op.Union e (expression_of path)) (union_has e (expression_of path) v a.0) paths a.1 n (elim s [
    | inl x ↦ inl (union_selects e (expression_of path) v a.0 n (inl x))
    | inr z ↦ elim z [ inl y ↦ inl (union_selects e (expression_of path) v a.0 n (inr y)) | inr r ↦ inr r ]
  ])

  pub select_all : (e : Expr) → HasNodes e → (paths : List PatternPath) → Each PathHas paths → (n : ℕ) → Selects R (with_alternatives e paths) m n → Selects R e m n ⊎ SomeOf (PathSelects n) paths
  select_all e v [] a n s = inl s
  select_all e v (path ∷ paths) a n s = elim (select_all (expr.Binary op.Union e (expression_of path)) (union_has e (expression_of path) v a.0) paths a.1 n s) [
    | inl x ↦ elim (selects_union e (expression_of path) v a.0 n x) [ inl l ↦ inl l | inr r ↦ inr (inl r) ]
    | inr z ↦ inr (inr z)
  ]

same_key : (o : Option ℕ) (a b : ℕ) → o ≡ Some a → o ≡ Some b → a ≡ b
same_key o a b e f = let g : Some a ≡ Some b = sym e ∙ f in cc

module _ (rules : List StripRule) (keys : List KeyDecl) (id : Option (List ℕ)) (steps : List Step) (lawful : IsLawful steps) (whole : IsComplete steps) where
  abbrev S : Reading
  S = reading_of rules keys id steps

  abbrev T : ℕ → Type 0
  T = IsThere rules steps

  without_fault : (s : PatternStart) → LooksUp S s → LooksUpWithoutFault S s
  without_fault start.Relative u = tt
  without_fault start.Root u = tt
  without_fault start.Deep u = tt
  without_fault (start.Id ids) u = tt
  without_fault (start.Key name value) u = λ key fault slot is. u.2 fault (ap (λ k. S.by_key k value) (same_key name.slot (u.0) key u.1 slot) ∙ is)

  -- each alternative has nodes, in the context of any node
  has_nodes : (s : PatternStart) (ps : List PatternStep) → Each IsPlainStep ps → LooksUp S s → (m : ℕ) → T m → HasNodes S m (expression_from s ps)
  has_nodes start.Relative ps q u m t = (_, path_known rules keys id steps whole [] (alone m) false (steps_in ps) (steps_bare ps q) t)
  has_nodes start.Root ps q u m t = (_, path_known rules keys id steps whole [] (alone m) true (steps_in ps) (steps_bare ps q) (reading_told rules keys id steps).root)
  has_nodes start.Deep ps q u m t = (_, path_known rules keys id steps whole [] (alone m) true (any_depth ∷ steps_in ps) (refl, steps_bare ps q) (reading_told rules keys id steps).root)
  has_nodes (start.Id ids) ps q u m t = (
    _,
    call_known rules keys id steps whole (call_of_id ids) (named rules keys id steps whole ids) (id_call rules keys id steps whole ids)
        (named_there rules keys id steps whole ids) ps q (alone m),
  )
  has_nodes (start.Key name value) ps q u m t = by_found (S.by_key (u.0) value) refl
    where
      by_found : (o : Outcome (List ℕ)) → S.by_key (u.0) value ≡ o → HasNodes S m (expression_from (start.Key name value) ps)
      by_found (Known found) is = (
        _,
        call_known rules keys id steps whole (call_of_key name value) found (λ c. key_call rules keys id steps whole name value (u.0) found c u.1 is)
            (key_there rules keys id steps whole (u.0) value found is) ps q (alone m),
      )
      by_found (Fault f) is = absurd (u.2 f is)
      by_found (Open k) is = absurd (nothing_open steps (Each T) (S.by_key (u.0) value) k whole ((reading_told rules keys id steps).by_key (u.0) value) is)

  paths_have : (paths : List PatternPath) → Each (IsPlainAlternative S) paths → (m : ℕ) → T m → Each (PathHas S m) paths
  paths_have [] a m t = tt
  paths_have (path ∷ paths) a m t = (has_nodes path.start path.parts ((a.0).0).steps (a.0).1 m t, paths_have paths a.1 m t)

  abbrev Around : ℕ → PatternPath → Type 0
  Around n path = (m : ℕ) × IsAround (rows_of steps) m n × Selects S (expression_of path) m n

  path_told : (n : ℕ) → T n → (path : PatternPath) → IsPlainAlternative S path → Told (match_path S path n) (Around n path)
  path_told n t path a = let s = path_matches rules keys id steps lawful whole path a.0 (without_fault path.start a.1) n t in record { answer = s.matches; known = s.known; means = s.selected }

  -- where one of them selects, it does so in one context
  in_context : (n : ℕ) (paths : List PatternPath) → SomeOf (Around n) paths → (m : ℕ) × IsAround (rows_of steps) m n × SomeOf (PathSelects S m n) paths
  in_context n [] s = absurd s
  in_context n (path ∷ paths) s = elim s [
    | inl x ↦ (x.0, x.1, inl x.2)
    | inr r ↦ let w = in_context n paths r in (w.0, w.1, inr w.2)
  ]

  pub pattern_matches : (first : PatternPath) (others : List PatternPath) → Each (IsPlainAlternative S) (first ∷ others) → (n : ℕ) → T n → PatternMatchesAsSelected (rows_of steps) S first others n
  pattern_matches first others a n t =
      let told = told_any (λ path. match_path S path n) (Around n) (IsPlainAlternative S) (first ∷ others) a (path_told n t) in
      record {
        matches = told.answer;
        known = told.known;
        selected = (
          (λ e.
              let w = in_context n (first ∷ others) (told.means.0 e) in
              let u = around_there rules keys id steps lawful whole (w.0) n t w.1 in
              let h = paths_have (first ∷ others) a (w.0) u in
              (w.0, w.1, all_select S (w.0) (expression_of first) h.0 others h.1 n w.2)),
          (λ x.
              let u = around_there rules keys id steps lawful whole (x.0) n t x.1 in
              let h = paths_have (first ∷ others) a (x.0) u in
              told.means.1 (some_as (PathSelects S (x.0) n) (Around n) (first ∷ others) (λ path s. (x.0, x.1, s)) (select_all S (x.0) (expression_of first) h.0 others h.1 n x.2))),
        );
      }
