-- How a search for the start of a pattern goes on.
use Rattle.std.proofs.Common.{◌≡◌, refl, sym, ap, ◌∙◌, subst, ℕ, zero, suc, ◌+◌, ◌<◌, ◌≤◌, List, [], ◌∷◌}
use Rattle.std.proofs.Common.{◌++◌, length, map, reverse, take, get_or, Bool, true, false, cond, Option, Some, None, arith}
use Rattle.std.proofs.Math.Seq.{take-suc, take-length}
use Rattle.std.proofs.lemmas.List.{reverse-append, length-reverse, length-map, length-take-le, map-append}
use Rattle.doc_model.specs.declared.node_test.Test.TheVariants as test
use Rattle.doc_model.specs.declared.row.Axis.TheVariants as axis
use Rattle.doc_model.specs.declared.step.Step.{Step}
use Rattle.doc_model.specs.declared.strip_rule.StripRule.{StripRule}
use Rattle.doc_model.specs.Answers.{Known, Fault, Open}
use Rattle.doc_model.specs.Axes.{axis_rows}
use Rattle.doc_model.specs.Lawful.{Grows, IsLawful}
use Rattle.doc_model.specs.Relations.{parent_of}
use Rattle.doc_model.specs.Rows.{rows_of}
use Rattle.doc_model.specs.View.{Seen, Moves}
use Rattle.doc_laws.proofs.Growth.{Grows-trans}
use Rattle.key_sources.specs.Going.{Lookups, reading_by}
use Rattle.xpath_laws.specs.Sound.{Each, IsThere}
use Rattle.xpath_meaning.specs.Conversions.{first_of}
use Rattle.xpath_meaning.specs.Match.{MatchStep, match_step, is_step_to, starts, leads, match_path}
use Rattle.xpath_meaning.specs.Outcome.{Outcome, ◌>>=◌}
use Rattle.xpath_meaning.specs.Reading.{Reading}
use Rattle.xpath_syntax.specs.declared.pattern.PatternPath.{PatternPath}
use Rattle.xpath_syntax.specs.declared.pattern.PatternStep.{PatternStep}
use Rattle.patterns.specs.declared.trials.Place.{Place}
use Rattle.patterns.specs.declared.trials.Turn.TheVariants.{Missed}
use Rattle.patterns.specs.Places.{PlaceIsThere, AllThere, weight, GoesAs}
use Rattle.xpath_nodes.proofs.Holding.{there_on, each_weaker}
use Rattle.patterns.specs.Trials.{steps_left, otherwise, each_tried, tried_if, ancestors_tried, sources_tried, tries, tries_place}
use Rattle.patterns.specs.Trials.{place_at, up_from, turn_behind, met_if, turn_of, turned, resumed, gone}
use Rattle.patterns.proofs.Climbing.{root_alone, parent_first}
use Rattle.patterns.proofs.Standing.{there_grows, parent_later, parent_there, parent_read, no_parent_read, ancestors_are}
use Rattle.patterns.proofs.Trying.{IsClimbed, Agrees, Done, done_none, tries_agree}

-- ---- the steps that are left

pub left_length : (parts : List PatternStep) (count : ℕ) → count ≤ length parts → length (steps_left parts count) ≡ count
left_length parts count l = length-reverse (map match_step (take count parts)) ∙ length-map (take count parts) match_step ∙ length-take-le count parts l

pub left_more : (parts : List PatternStep) (count : ℕ) (d : PatternStep) → count < length parts → steps_left parts (suc count) ≡ match_step (get_or parts count d) ∷ steps_left parts count
left_more parts count d l =
    ap (λ steps. reverse (map match_step steps)) (take-suc parts count d l)
    ∙ ap reverse (map-append match_step (take count parts) (get_or parts count d ∷ []))
    ∙ reverse-append (map match_step (take count parts)) (match_step (get_or parts count d) ∷ [])

-- ---- one turn

turned_up : (R : Reading) (path : PatternPath) (tried : ℕ) (steps : List MatchStep) → steps_left path.parts (length steps) ≡ steps → (first : Option ℕ)
    → tried_if (tries R path.start steps) tried first ≡ turned R path tried (Some (up_from (length steps) first))
turned_up R path tried steps e None = refl
turned_up R path tried steps e (Some a) = ap (λ steps. tries R path.start steps tried a) (sym e)

turned_behind : (R : Reading) (path : PatternPath) (tried n : ℕ) (steps : List MatchStep) → steps_left path.parts (length steps) ≡ steps → (deep : Bool)
    → sources_tried R deep (length steps) (tries R path.start steps) tried n ≡ (turn_behind R deep (length steps) n >>= turned R path tried)
turned_behind R path tried n steps e true = ap (λ left. ancestors_tried R (length steps) (tries R path.start left) tried n) (sym e)
turned_behind R path tried n steps e false = by (R.axis axis.Parent test.Any n)
  where
    by : (o : Outcome (List ℕ)) → (o >>= λ above. tried_if (tries R path.start steps) tried (first_of above))
        ≡ ((o >>= λ above. Known (Some (up_from (length steps) (first_of above)))) >>= turned R path tried)
    by (Known above) = turned_up R path tried steps e (first_of above)
    by (Fault x) = refl
    by (Open m) = refl

turn_steps : (R : Reading) (path : PatternPath) (tried n : ℕ) (steps : List MatchStep)
    → ((step : MatchStep) (before : List MatchStep) → steps ≡ step ∷ before → steps_left path.parts (length before) ≡ before)
    → tries R path.start steps tried n ≡ (turn_of R path.start steps n >>= turned R path tried)
turn_steps R path tried n [] h = by (starts R path.start n)
  where
    by : (o : Outcome Bool) → (o >>= λ here. Known (cond here None (Some tried))) ≡ ((o >>= λ here. Known (met_if here)) >>= turned R path tried)
    by (Known true) = refl
    by (Known false) = refl
    by (Fault x) = refl
    by (Open m) = refl
turn_steps R path tried n (step ∷ before) h = by (is_step_to R step n)
  where
    by : (o : Outcome Bool)
        → (o >>= λ here. cond here (sources_tried R step.deep (length before) (tries R path.start before) tried n) (Known (Some tried)))
        ≡ ((o >>= λ here. cond here (turn_behind R step.deep (length before) n) (Known (Some Missed))) >>= turned R path tried)
    by (Known true) = turned_behind R path tried n before (h step before refl) step.deep
    by (Known false) = refl
    by (Fault x) = refl
    by (Open m) = refl

pub turn_is : (R : Reading) (path : PatternPath) (tried : ℕ) (place : Place) → place.steps ≤ length path.parts
    → tries_place R path tried place ≡ (turn_of R path.start (steps_left path.parts place.steps) place.node >>= turned R path tried)
turn_is R path tried place l = turn_steps R path tried place.node (steps_left path.parts place.steps) (left place.steps l)
  where
    left : (count : ℕ) → count ≤ length path.parts → (step : MatchStep) (before : List MatchStep) → steps_left path.parts count ≡ step ∷ before → steps_left path.parts (length before) ≡ before
    left zero l step before e = absurd (let no : ◌≡◌ {A = List MatchStep} [] (step ∷ before) = e in cc)
    left (suc count) l step before e = by path.parts l e
      where
        tail : (a b : MatchStep) (x y : List MatchStep) → a ∷ x ≡ b ∷ y → x ≡ y
        tail a b x y e = cc

        by : (parts : List PatternStep) → suc count ≤ length parts → steps_left parts (suc count) ≡ step ∷ before → steps_left parts (length before) ≡ before
        by [] l e = absurd (omega arith)
        by (p ∷ ps) l e =
            let more = left_more (p ∷ ps) count p (omega arith) in
            let same = tail _ _ _ _ (sym more ∙ e) in
            ap (λ k. steps_left (p ∷ ps) k) (ap length (sym same) ∙ left_length (p ∷ ps) count (omega arith)) ∙ same

-- ---- the whole search

ends : (R : Reading) (path : PatternPath) (o : Outcome (Option ℕ)) (meant : Outcome Bool) (Left : ℕ → Type 0) → Agrees o meant Left → meant ≡ (o >>= resumed R path [])
ends R path (Known None) meant Left r = r
ends R path (Known (Some tried)) meant Left r = r.0
ends R path (Fault x) meant Left r = r
ends R path (Open m) meant Left r = r

module _ (lookups : Lookups) (rules : List StripRule) (steps : List Step) (l : IsLawful steps) where
  abbrev pub ancestors_at : ℕ → Outcome (List ℕ)
  ancestors_at n = (reading_by lookups rules steps).axis axis.Ancestor test.Any n

  abbrev pub parent_at : ℕ → Outcome (List ℕ)
  parent_at n = (reading_by lookups rules steps).axis axis.Parent test.Any n

  abbrev pub above_of : ℕ → List ℕ
  above_of n = axis_rows rules (rows_of steps) n axis.Ancestor test.Any

  -- the parent of a row is the first of its ancestors
  pub record HasParent (n a : ℕ) : Type 0 where
    pub parent : parent_at n ≡ Known (a ∷ [])
    pub ancestors : ancestors_at n ≡ Known (a ∷ above_of a)
    pub next : ancestors_at a ≡ Known (above_of a)
    pub there : IsThere rules steps a

  pub record HasNone (n : ℕ) : Type 0 where
    pub parent : parent_at n ≡ Known []
    pub ancestors : ancestors_at n ≡ Known []

  pub has_parent : (n a : ℕ) → IsThere rules steps n → parent_of (rows_of steps) n ≡ Some a → HasParent n a
  has_parent n a t p =
      let there = parent_there rules steps n a l t.0 p in
      record {
        parent = parent_read lookups rules steps n a t p;
        ancestors = ancestors_are lookups rules steps n t.0 ∙ ap (λ ks. Known ks) (parent_first rules steps n a l t.0 p);
        next = ancestors_are lookups rules steps a there.0;
        there = there;
      }

  pub has_none : (n : ℕ) → IsThere rules steps n → parent_of (rows_of steps) n ≡ None → HasNone n
  has_none n t p = record {
    parent = no_parent_read lookups rules steps n t p;
    ancestors = ancestors_are lookups rules steps n t.0 ∙ ap (λ ks. Known ks) (root_alone rules steps n l t.0 p);
  }

  -- by the parent or by none
  by_parent : (P : ℕ → Type 0) (n : ℕ) → IsThere rules steps n → (HasNone n → P n) → ((a : ℕ) → HasParent n a → P n) → P n
  by_parent P n t f g = by (parent_of (rows_of steps) n) refl
    where
      by : (o : Option ℕ) → parent_of (rows_of steps) n ≡ o → P n
      by None e = f (has_none n t e)
      by (Some a) e = g a (has_parent n a t e)

  known_none : {x : List ℕ} (a : ℕ) (o : Outcome (List ℕ)) → o ≡ Known [] → o ≡ Known (a ∷ x) → ⊥
  known_none {x} a o e f = let no : ◌≡◌ {A = Outcome (List ℕ)} (Known []) (Known (a ∷ x)) = sym e ∙ f in cc

  known_same : (a b : ℕ) (x y : List ℕ) (o : Outcome (List ℕ)) → o ≡ Known (a ∷ x) → o ≡ Known (b ∷ y) → (a ≡ b) × (x ≡ y)
  known_same a b x y o e f = let both : Known (a ∷ x) ≡ Known (b ∷ y) = sym e ∙ f in (cc, cc)

  pub climbed_by : IsClimbed (reading_by lookups rules steps) (IsThere rules steps)
  climbed_by = record {
    known = λ n t. (above_of n, ancestors_are lookups rules steps n t.0);
    none = λ n t. by_parent (λ n. ancestors_at n ≡ Known [] → parent_at n ≡ Known []) n t (λ h e. h.parent) (λ a h e. absurd (known_none a (ancestors_at n) e h.ancestors));
    parent = λ n a above t. by_parent (λ n. ancestors_at n ≡ Known (a ∷ above) → parent_at n ≡ Known (a ∷ [])) n t
        (λ h e. absurd (known_none a (ancestors_at n) h.ancestors e))
        (λ b h e. h.parent ∙ ap (λ k. Known (k ∷ [])) (known_same b a (above_of b) above (ancestors_at n) h.ancestors e).0);
    next = λ n a above t. by_parent (λ n. ancestors_at n ≡ Known (a ∷ above) → ancestors_at a ≡ Known above) n t
        (λ h e. absurd (known_none a (ancestors_at n) h.ancestors e))
        (λ b h e. let s = known_same b a (above_of b) above (ancestors_at n) h.ancestors e in ap ancestors_at (sym s.0) ∙ h.next ∙ ap (λ ks. Known ks) s.1);
    there = λ n a above t. by_parent (λ n. ancestors_at n ≡ Known (a ∷ above) → IsThere rules steps a) n t
        (λ h e. absurd (known_none a (ancestors_at n) h.ancestors e))
        (λ b h e. subst (IsThere rules steps) (known_same b a (above_of b) above (ancestors_at n) h.ancestors e).0 h.there);
    single = λ n a more t. by_parent (λ n. parent_at n ≡ Known (a ∷ more) → more ≡ []) n t
        (λ h e. absurd (known_none a (parent_at n) h.parent e))
        (λ b h e. sym (known_same b a [] more (parent_at n) h.parent e).1);
    up = λ n a more t. by_parent (λ n. parent_at n ≡ Known (a ∷ more) → IsThere rules steps a) n t
        (λ h e. absurd (known_none a (parent_at n) h.parent e))
        (λ b h e. subst (IsThere rules steps) (known_same b a [] more (parent_at n) h.parent e).0 h.there);
  }

  -- a path matches as the search from its last step finds
  pub search_is : (path : PatternPath) (n : ℕ) → IsThere rules steps n
      → match_path (reading_by lookups rules steps) path n ≡ gone (reading_by lookups rules steps) path (length path.parts) [] (Some (place_at (length path.parts) n))
  search_is path n t =
      let R = reading_by lookups rules steps in
      let count = length path.parts in
      let enough = left_length path.parts count (omega arith) in
      ap (λ parts. leads R path.start (reverse (map match_step parts)) n) (sym (take-length path.parts))
      ∙ ends R path (tries R path.start (steps_left path.parts count) count n) (leads R path.start (steps_left path.parts count) n)
      (λ left. Done R (IsThere rules steps) climbed_by path.start (steps_left path.parts count) left n)
      (tries_agree R (IsThere rules steps) climbed_by path.start (steps_left path.parts count) count n t
      (done_none R (IsThere rules steps) climbed_by path.start (steps_left path.parts count) count n (omega (arith, enough))))

-- ---- the next ancestor that is tried

-- a trial at the first ancestor, and the others behind it
next_tried : (R : Reading) (path : PatternPath) (fork : Place) (forks : List Place) (tried a : ℕ) (above : List ℕ) → R.axis axis.Ancestor test.Any fork.node ≡ Known (a ∷ above)
    → R.axis axis.Ancestor test.Any a ≡ Known above
    → resumed R path (fork ∷ forks) (Some tried) ≡ (tries_place R path tried (place_at fork.steps a) >>= resumed R path (place_at fork.steps a ∷ forks))
next_tried R path fork forks tried a above e f =
    ap (λ o. (o >>= λ above. each_tried (tries R path.start (steps_left path.parts fork.steps)) above tried) >>= resumed R path forks) e ∙ by (tries_place R path tried (place_at fork.steps a))
  where
    by : (o : Outcome (Option ℕ)) → ((o >>= λ left. otherwise left (each_tried (tries R path.start (steps_left path.parts fork.steps)) above)) >>= resumed R path forks)
        ≡ (o >>= resumed R path (place_at fork.steps a ∷ forks))
    by (Known None) = refl
    by (Known (Some left)) = ap (λ o. (o >>= λ above. each_tried (tries R path.start (steps_left path.parts fork.steps)) above left) >>= resumed R path forks) (sym f)
    by (Fault x) = refl
    by (Open m) = refl

none_tried : (R : Reading) (path : PatternPath) (fork : Place) (forks : List Place) (tried : ℕ) → R.axis axis.Ancestor test.Any fork.node ≡ Known []
    → resumed R path (fork ∷ forks) (Some tried) ≡ resumed R path forks (Some tried)
none_tried R path fork forks tried e = ap (λ o. (o >>= λ above. each_tried (tries R path.start (steps_left path.parts fork.steps)) above tried) >>= resumed R path forks) e

-- ---- what a search that is resumed comes to

-- a node that has no ancestor left to be tried
pub resumed_none : {M : Type 0} (seen : Seen M) (path : PatternPath) (fork : Place) (forks : List Place) (tried : ℕ) → IsThere seen.rules seen.steps fork.node
    → parent_of (rows_of seen.steps) fork.node ≡ None
    → GoesAs seen (λ R. Known (Some tried)) (λ R. resumed R path (fork ∷ forks)) (λ R. resumed R path forks (Some tried))
resumed_none seen path fork forks tried t p = record {
  same = λ lookups steps g l.
      none_tried (reading_by lookups seen.rules steps) path fork forks tried
      (has_none lookups seen.rules steps l fork.node (there_grows seen.rules seen.steps steps fork.node g t) (parent_later seen.steps steps fork.node None g t.0 p)).ancestors;
}

-- one whose parent is the next
pub resumed_some : {M : Type 0} (seen : Seen M) (path : PatternPath) (fork : Place) (forks : List Place) (tried a : ℕ) → IsThere seen.rules seen.steps fork.node
    → parent_of (rows_of seen.steps) fork.node ≡ Some a
    → GoesAs seen (λ R. Known (Some tried)) (λ R. resumed R path (fork ∷ forks)) (λ R. tries_place R path tried (place_at fork.steps a) >>= resumed R path (place_at fork.steps a ∷ forks))
resumed_some seen path fork forks tried a t p = record {
  same = λ lookups steps g l.
      let h = has_parent lookups seen.rules steps l fork.node a (there_grows seen.rules seen.steps steps fork.node g t) (parent_later seen.steps steps fork.node (Some a) g t.0 p) in
      next_tried (reading_by lookups seen.rules steps) path fork forks tried a (axis_rows seen.rules (rows_of steps) a axis.Ancestor test.Any) h.ancestors h.next;
}

-- ---- the same, of forks of which the last is taken off

abbrev pub Left : {M : Type 0} → Seen M → PatternPath → ℕ → List Place → List Place → Type 0
Left seen path tried old forks = GoesAs seen (λ R. Known (Some tried)) (λ R. resumed R path (reverse old)) (λ R. resumed R path (reverse forks) (Some tried))

pub left_start : {M : Type 0} (seen : Seen M) (path : PatternPath) (tried : ℕ) (old : List Place) → Left seen path tried old old
left_start seen path tried old = record { same = λ lookups steps g l. refl }

moved_same : {M : Type 0} (s t : Seen M) (path : PatternPath) (tried : ℕ) (old forks : List Place) → Moves s t → Left s path tried old forks → (lookups : Lookups) (steps : List Step)
    → Grows t.steps steps → IsLawful steps
    → resumed (reading_by lookups t.rules steps) path (reverse old) (Some tried) ≡ resumed (reading_by lookups t.rules steps) path (reverse forks) (Some tried)
moved_same s t path tried old forks m w lookups steps g l =
    subst (λ rules. resumed (reading_by lookups rules steps) path (reverse old) (Some tried) ≡ resumed (reading_by lookups rules steps) path (reverse forks) (Some tried)) (sym m.rules_stay)
    (w.same lookups steps (Grows-trans s.steps t.steps steps m.grows g) l)

last_first : (new : List Place) (fork : Place) (forks : List Place) → forks ≡ new ++ fork ∷ [] → reverse forks ≡ fork ∷ reverse new
last_first new fork forks e = ap reverse e ∙ reverse-append new (fork ∷ [])

pub left_none : {M : Type 0} (s t : Seen M) (path : PatternPath) (tried : ℕ) (old forks new : List Place) (fork : Place) → Moves s t → forks ≡ new ++ fork ∷ [] → IsThere t.rules t.steps fork.node
    → parent_of (rows_of t.steps) fork.node ≡ None
    → Left s path tried old forks → Left t path tried old new
left_none s t path tried old forks new fork m e there p w = record {
  same = λ lookups steps g l.
      moved_same s t path tried old forks m w lookups steps g l ∙ ap (λ fs. resumed (reading_by lookups t.rules steps) path fs (Some tried)) (last_first new fork forks e)
      ∙ (resumed_none t path fork (reverse new) tried there p).same lookups steps g l;
}

pub left_some : {M : Type 0} (s t : Seen M) (path : PatternPath) (tried : ℕ) (old forks new again : List Place) (fork : Place) (a : ℕ) → Moves s t → forks ≡ new ++ fork ∷ []
    → again ≡ new ++ place_at fork.steps a ∷ [] → IsThere t.rules t.steps fork.node
    → parent_of (rows_of t.steps) fork.node ≡ Some a → Left s path tried old forks
    → GoesAs t (λ R. Known (Some tried)) (λ R. resumed R path (reverse old)) (λ R. gone R path tried again (Some (place_at fork.steps a)))
left_some s t path tried old forks new again fork a m e f there p w = record {
  same = λ lookups steps g l.
      moved_same s t path tried old forks m w lookups steps g l ∙ ap (λ fs. resumed (reading_by lookups t.rules steps) path fs (Some tried)) (last_first new fork forks e)
      ∙ (resumed_some t path fork (reverse new) tried a there p).same lookups steps g l
      ∙ ap (λ fs. tries_place (reading_by lookups t.rules steps) path tried (place_at fork.steps a) >>= resumed (reading_by lookups t.rules steps) path fs)
      (sym (last_first new (place_at fork.steps a) again f));
}

pub left_nowhere : {M : Type 0} (seen : Seen M) (path : PatternPath) (tried : ℕ) (old forks after : List Place) → forks ≡ [] → Left seen path tried old forks
    → GoesAs seen (λ R. Known (Some tried)) (λ R. resumed R path (reverse old)) (λ R. gone R path tried after None)
left_nowhere seen path tried old forks after e w = record {
  same = λ lookups steps g l. w.same lookups steps g l ∙ ap (λ fs. resumed (reading_by lookups seen.rules steps) path (reverse fs) (Some tried)) e;
}

-- ---- facts of forks

pub each_last : {A : Type 0} (T : A → Type 0) (xs : List A) (x : A) → Each T (xs ++ x ∷ []) → T x
each_last T [] x a = a.0
each_last T (y ∷ ys) x a = each_last T ys x a.1

pub each_front : {A : Type 0} (T : A → Type 0) (xs : List A) (x : A) → Each T (xs ++ x ∷ []) → Each T xs
each_front T [] x a = tt
each_front T (y ∷ ys) x a = (a.0, each_front T ys x a.1)

pub each_push : {A : Type 0} (T : A → Type 0) (xs : List A) (x : A) → Each T xs → T x → Each T (xs ++ x ∷ [])
each_push T [] x a t = (t, tt)
each_push T (y ∷ ys) x a t = (a.0, each_push T ys x a.1 t)

pub weight_push : (forks : List Place) (fork : Place) → weight (forks ++ fork ∷ []) ≡ weight forks + fork.node
weight_push [] fork = omega arith
weight_push (f ∷ fs) fork = let w = weight_push fs fork in omega (arith, w)

pub places_on : {M : Type 0} (s t : Seen M) (places : List Place) → Moves s t → AllThere s places → AllThere t places
places_on s t places m a = each_weaker (PlaceIsThere s) (PlaceIsThere t) places (λ place w. there_on s t place.node m w) a
