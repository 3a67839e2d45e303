-- A search that tries what stands before a `//` at each ancestor once answers what one does that tries everything.
use Rattle.std.proofs.Common.{◌≡◌, refl, sym, ap, ◌∙◌, subst, ℕ, suc, ◌≤◌, List, [], ◌∷◌, length, Bool, true, false, cond, ltb, Option, Some, None, arith}
use Rattle.std.specs.Prelude.{⊤}
use Rattle.std.proofs.lemmas.Bool.{ltb-false}
use Rattle.doc_model.specs.declared.node_test.Test.TheVariants as test
use Rattle.doc_model.specs.declared.row.Axis.TheVariants as axis
use Rattle.doc_model.specs.Answers.{Known, Fault, Open}
use Rattle.xpath_meaning.specs.Conversions.{first_of}
use Rattle.xpath_meaning.specs.Match.{MatchStep, is_step_to, sources, starts, leads}
use Rattle.xpath_meaning.specs.Outcome.{Outcome, ◌>>=◌, some_holds}
use Rattle.xpath_meaning.specs.Reading.{Reading}
use Rattle.xpath_syntax.specs.declared.pattern.PatternStart.{PatternStart}
use Rattle.patterns.specs.Trials.{otherwise, each_tried, tried_if, sources_tried, tries}

-- of rows that are there the ancestors are the parent and its ancestors
pub record IsClimbed (R : Reading) (There : ℕ → Type 0) : Type 0 where
  pub known : (n : ℕ) → There n → (above : List ℕ) × (R.axis axis.Ancestor test.Any n ≡ Known above)
  pub none : (n : ℕ) → There n → R.axis axis.Ancestor test.Any n ≡ Known [] → R.axis axis.Parent test.Any n ≡ Known []
  pub parent : (n a : ℕ) (above : List ℕ) → There n → R.axis axis.Ancestor test.Any n ≡ Known (a ∷ above) → R.axis axis.Parent test.Any n ≡ Known (a ∷ [])
  pub next : (n a : ℕ) (above : List ℕ) → There n → R.axis axis.Ancestor test.Any n ≡ Known (a ∷ above) → R.axis axis.Ancestor test.Any a ≡ Known above
  pub there : (n a : ℕ) (above : List ℕ) → There n → R.axis axis.Ancestor test.Any n ≡ Known (a ∷ above) → There a
  pub single : (n a : ℕ) (more : List ℕ) → There n → R.axis axis.Parent test.Any n ≡ Known (a ∷ more) → more ≡ []
  pub up : (n a : ℕ) (more : List ℕ) → There n → R.axis axis.Parent test.Any n ≡ Known (a ∷ more) → There a

-- what a trial comes to is what is meant; and where the steps do not lead there, this holds of what was tried
abbrev pub Agrees : Outcome (Option ℕ) → Outcome Bool → (ℕ → Type 0) → Type 0
Agrees (Known None) meant Left = meant ≡ Known true
Agrees (Known (Some tried)) meant Left = (meant ≡ Known false) × Left tried
Agrees (Fault fault) meant Left = meant ≡ Fault fault
Agrees (Open m) meant Left = meant ≡ Open m

module _ (R : Reading) (There : ℕ → Type 0) (climbed : IsClimbed R There) (start : PatternStart) where
  -- Behind a step: where its ancestors count as tried, the steps before it lead to none of them. Of steps that stand before a `/`, this holds at the parent.
  abbrev pub DoneAt : Bool → (ℕ → ℕ → Type 0) → List MatchStep → ℕ → ℕ → Type 0
  DoneAt true Before steps tried n = tried ≤ length steps → (above : List ℕ) → R.axis axis.Ancestor test.Any n ≡ Known above → some_holds (leads R start steps) above ≡ Known false
  DoneAt false Before steps tried n = (a : ℕ) → R.axis axis.Parent test.Any n ≡ Known (a ∷ []) → Before tried a

  abbrev pub Done : List MatchStep → ℕ → ℕ → Type 0
  Done [] tried n = ⊤
  Done (step ∷ steps) tried n = DoneAt step.deep (Done steps) steps tried n

  done_none_at : (deep : Bool) (steps : List MatchStep) (tried n : ℕ) → suc (length steps) ≤ tried → ((a : ℕ) → Done steps tried a) → DoneAt deep (Done steps) steps tried n
  done_none_at true steps tried n l before = λ h above e. absurd (omega arith)
  done_none_at false steps tried n l before = λ a e. before a

  -- nothing counts as tried yet
  pub done_none : (steps : List MatchStep) (tried n : ℕ) → length steps ≤ tried → Done steps tried n
  done_none [] tried n l = tt
  done_none (step ∷ steps) tried n l = done_none_at step.deep steps tried n l (λ a. done_none steps tried a (omega arith))

  rest_false : (f : ℕ → Outcome Bool) (a : ℕ) (above : List ℕ) → some_holds f (a ∷ above) ≡ Known false → some_holds f above ≡ Known false
  rest_false f a above e = by (f a) e
    where
      by : (o : Outcome Bool) → (o >>= λ here. cond here (Known true) (some_holds f above)) ≡ Known false → some_holds f above ≡ Known false
      by (Known true) e = cc
      by (Known false) e = e
      by (Fault x) e = cc
      by (Open m) e = cc

  abbrev Climbs : (ℕ → Type 0) → Type 0
  Climbs P = (n a : ℕ) (above : List ℕ) → There n → R.axis axis.Ancestor test.Any n ≡ Known (a ∷ above) → P n → P a

  done_up_at : (deep : Bool) (steps : List MatchStep) (tried : ℕ) → Climbs (Done steps tried) → Climbs (DoneAt deep (Done steps) steps tried)
  done_up_at true steps tried climb n a above t e d = λ l found f.
      let both : Known above ≡ Known found = sym (climbed.next n a above t e) ∙ f in
      let same : above ≡ found = cc in
      subst (λ ks. some_holds (leads R start steps) ks ≡ Known false) same (rest_false (leads R start steps) a above (d l (a ∷ above) e))
  done_up_at false steps tried climb n a above t e d = λ b g. on above b (climbed.next n a above t e) g (d a (climbed.parent n a above t e))
    where
      on : (above : List ℕ) (b : ℕ) → R.axis axis.Ancestor test.Any a ≡ Known above → R.axis axis.Parent test.Any a ≡ Known (b ∷ []) → Done steps tried a → Done steps tried b
      on [] b f g d = absurd (let no : ◌≡◌ {A = Outcome (List ℕ)} (Known []) (Known (b ∷ [])) = sym (climbed.none a (climbed.there n a above t e) f) ∙ g in cc)
      on (k ∷ ks) b f g d =
          let both : Known (k ∷ []) ≡ Known (b ∷ []) = sym (climbed.parent a k ks (climbed.there n a above t e) f) ∙ g in
          let same : k ≡ b = cc in
          subst (Done steps tried) same (climb a k ks (climbed.there n a above t e) f d)

  -- what is done at a node is done at its parent
  done_up : (steps : List MatchStep) (tried : ℕ) → Climbs (Done steps tried)
  done_up [] tried n a above t e d = tt
  done_up (step ∷ steps) tried n a above t e d = done_up_at step.deep steps tried (done_up steps tried) n a above t e d

  abbrev pub Trials : List MatchStep → Type 0
  Trials steps = (tried n : ℕ) → There n → Done steps tried n → Agrees (tries R start steps tried n) (leads R start steps n) (λ left. Done steps left n)

  -- the first of some nodes, and those behind it
  first_agrees : (steps : List MatchStep) (a : ℕ) (above : List ℕ)
      → ((left : ℕ) → Done steps left a → Agrees (each_tried (tries R start steps) above left) (some_holds (leads R start steps) above) (λ left. ⊤))
      → (o : Outcome (Option ℕ)) (meant : Outcome Bool) → Agrees o meant (λ left. Done steps left a)
      → Agrees (o >>= λ left. otherwise left (each_tried (tries R start steps) above)) (meant >>= λ here. cond here (Known true) (some_holds (leads R start steps) above)) (λ left. ⊤)
  first_agrees steps a above behind (Known None) meant r = ap (λ p. p >>= λ here. cond here (Known true) (some_holds (leads R start steps) above)) r
  first_agrees steps a above behind (Known (Some left)) meant r =
      subst (λ p. Agrees (each_tried (tries R start steps) above left) (p >>= λ here. cond here (Known true) (some_holds (leads R start steps) above)) (λ left. ⊤)) (sym r.0) (behind left r.1)
  first_agrees steps a above behind (Fault x) meant r = ap (λ p. p >>= λ here. cond here (Known true) (some_holds (leads R start steps) above)) r
  first_agrees steps a above behind (Open m) meant r = ap (λ p. p >>= λ here. cond here (Known true) (some_holds (leads R start steps) above)) r

  -- nodes each of which is followed by its ancestors
  each_agrees : (steps : List MatchStep) → Trials steps → (n : ℕ) (above : List ℕ) (tried : ℕ) → There n → R.axis axis.Ancestor test.Any n ≡ Known above
      → ((a : ℕ) (more : List ℕ) → above ≡ a ∷ more → Done steps tried a)
      → Agrees (each_tried (tries R start steps) above tried) (some_holds (leads R start steps) above) (λ left. ⊤)
  each_agrees steps h n [] tried t e d = (refl, tt)
  each_agrees steps h n (a ∷ above) tried t e d =
      first_agrees steps a above
      (λ left done. each_agrees steps h a above left (climbed.there n a above t e) (climbed.next n a above t e)
      (λ b more f. done_up steps left a b more (climbed.there n a above t e) (climbed.next n a above t e ∙ ap (λ ks. Known ks) f) done))
      (tries R start steps tried a) (leads R start steps a) (h tried a (climbed.there n a above t e) (d a above refl))

  -- behind a step that leads to a node
  sources_agree : (steps : List MatchStep) → Trials steps → (deep : Bool) (tried n : ℕ) → There n → DoneAt deep (Done steps) steps tried n
      → Agrees (sources_tried R deep (length steps) (tries R start steps) tried n) (sources R deep n >>= λ above. some_holds (leads R start steps) above)
      (λ left. DoneAt deep (Done steps) steps left n)
  sources_agree steps h true tried n t d = by_test (ltb (length steps) tried) refl
    where
      found : (above : List ℕ) → R.axis axis.Ancestor test.Any n ≡ Known above → (o : Outcome (Option ℕ)) (p : Outcome Bool) → p ≡ some_holds (leads R start steps) above → Agrees o p (λ left. ⊤)
          → Agrees o p (λ left. DoneAt true (Done steps) steps left n)
      found above e (Known None) p s r = r
      found above e (Known (Some left)) p s r = (
        r.0,
        λ l ks f.
            let both : Known above ≡ Known ks = sym e ∙ f in
            let same : above ≡ ks = cc in
            subst (λ ks. some_holds (leads R start steps) ks ≡ Known false) same (sym s ∙ r.0),
      )
      found above e (Fault x) p s r = r
      found above e (Open m) p s r = r

      fresh : (o : Outcome (List ℕ)) → R.axis axis.Ancestor test.Any n ≡ o
          → Agrees (o >>= λ above. each_tried (tries R start steps) above (length steps)) (o >>= λ above. some_holds (leads R start steps) above) (λ left. DoneAt true (Done steps) steps left n)
      fresh (Known above) e = found above e _ _ refl (each_agrees steps h n above (length steps) t e (λ a more f. done_none steps (length steps) a (omega arith)))
      fresh (Fault x) e = refl
      fresh (Open m) e = refl

      known : tried ≤ length steps → Agrees (Known (Some tried)) (R.axis axis.Ancestor test.Any n >>= λ above. some_holds (leads R start steps) above) (λ left. DoneAt true (Done steps) steps left n)
      known l = let k = climbed.known n t in (ap (λ o. o >>= λ above. some_holds (leads R start steps) above) k.1 ∙ d l (k.0) k.1, d)

      by_test : (b : Bool) → ltb (length steps) tried ≡ b
          → Agrees (cond b (R.axis axis.Ancestor test.Any n >>= λ above. each_tried (tries R start steps) above (length steps)) (Known (Some tried)))
          (R.axis axis.Ancestor test.Any n >>= λ above. some_holds (leads R start steps) above) (λ left. DoneAt true (Done steps) steps left n)
      by_test true e = fresh (R.axis axis.Ancestor test.Any n) refl
      by_test false e = known (ltb-false (length steps) tried e)
  sources_agree steps h false tried n t d = by (R.axis axis.Parent test.Any n) refl
    where
      one : (a : ℕ) (o : Outcome (Option ℕ)) (p : Outcome Bool) → R.axis axis.Parent test.Any n ≡ Known (a ∷ []) → Agrees o p (λ left. Done steps left a)
          → Agrees o (p >>= λ here. cond here (Known true) (Known false)) (λ left. DoneAt false (Done steps) steps left n)
      one a (Known None) p e r = ap (λ p. p >>= λ here. cond here (Known true) (Known false)) r
      one a (Known (Some left)) p e r = (
        ap (λ p. p >>= λ here. cond here (Known true) (Known false)) r.0,
        λ b g.
            let both : Known (a ∷ []) ≡ Known (b ∷ []) = sym e ∙ g in
            let same : a ≡ b = cc in
            subst (Done steps left) same r.1,
      )
      one a (Fault x) p e r = ap (λ p. p >>= λ here. cond here (Known true) (Known false)) r
      one a (Open m) p e r = ap (λ p. p >>= λ here. cond here (Known true) (Known false)) r

      by : (o : Outcome (List ℕ)) → R.axis axis.Parent test.Any n ≡ o
          → Agrees (o >>= λ above. tried_if (tries R start steps) tried (first_of above)) (o >>= λ above. some_holds (leads R start steps) above) (λ left. DoneAt false (Done steps) steps left n)
      by (Known []) e = (refl, d)
      by (Known (a ∷ more)) e =
          let alone = climbed.single n a more t e in
          let alone_read : R.axis axis.Parent test.Any n ≡ Known (a ∷ []) = e ∙ ap (λ ks. Known (a ∷ ks)) alone in
          subst (λ ks. Agrees (tries R start steps tried a) (some_holds (leads R start steps) (a ∷ ks)) (λ left. DoneAt false (Done steps) steps left n)) (sym alone)
          (one a (tries R start steps tried a) (leads R start steps a) alone_read (h tried a (climbed.up n a more t e) (d a alone_read)))
      by (Fault x) e = refl
      by (Open m) e = refl

  start_agrees : (tried : ℕ) (o : Outcome Bool) → Agrees (o >>= λ here. Known (cond here None (Some tried))) o (λ left. ⊤)
  start_agrees tried (Known true) = refl
  start_agrees tried (Known false) = (refl, tt)
  start_agrees tried (Fault x) = refl
  start_agrees tried (Open m) = refl

  step_agrees : (tried : ℕ) (Left : ℕ → Type 0) → Left tried → (behind : Outcome (Option ℕ)) (meant : Outcome Bool) → Agrees behind meant Left → (o : Outcome Bool)
      → Agrees (o >>= λ here. cond here behind (Known (Some tried))) (o >>= λ here. cond here meant (Known false)) Left
  step_agrees tried Left d behind meant r (Known true) = r
  step_agrees tried Left d behind meant r (Known false) = (refl, d)
  step_agrees tried Left d behind meant r (Fault x) = refl
  step_agrees tried Left d behind meant r (Open m) = refl

  pub tries_agree : (steps : List MatchStep) → Trials steps
  tries_agree [] tried n t d = start_agrees tried (starts R start n)
  tries_agree (step ∷ steps) tried n t d = step_agrees tried (λ left. DoneAt step.deep (Done steps) steps left n) d _ _ (sources_agree steps (tries_agree steps) step.deep tried n t d)
      (is_step_to R step n)
