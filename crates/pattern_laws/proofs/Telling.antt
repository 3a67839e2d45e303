-- Whether a node matches: the steps of a pattern from the last one on, on a whole document.
use Rattle.std.proofs.Common.{◌≡◌, refl, sym, ap, ◌∙◌, subst, ◌↔◌, ℕ, ◌<◌, Bool, true, false, cond, eqb, List, [], ◌∷◌, length, map, Option, Some, None, arith, inl, inr}
use Rattle.std.proofs.lemmas.Bool.{eqb-true, false≢true}
use Rattle.doc_model.specs.declared.node_test.Test.TheVariants as any
use Rattle.doc_model.specs.declared.row.Axis.TheVariants as axis
use Rattle.doc_model.specs.declared.row.Row.{Row}
use Rattle.doc_model.specs.declared.step.Step.{Step}
use Rattle.doc_model.specs.declared.strip_rule.StripRule.{StripRule}
use Rattle.doc_model.specs.Answers.{Known}
use Rattle.doc_model.specs.Axes.{axis_rows, is_on}
use Rattle.doc_model.specs.Document.{is_member}
use Rattle.doc_model.specs.Lawful.{IsComplete, IsLawful}
use Rattle.doc_model.specs.Relations.{parent_of}
use Rattle.doc_model.specs.Rows.{row_at, rows_of}
use Rattle.doc_laws.proofs.Ancestors.{below_parts}
use Rattle.doc_laws.proofs.Rooted.{IsRooted, lawful_rooted}
use Rattle.doc_laws.proofs.Sound.{TreeHolds, lawful_tree}
use Rattle.sheet_ast.specs.declared.sheet.KeyDecl.{KeyDecl}
use Rattle.xpath_laws.specs.Sound.{Each, IsThere}
use Rattle.xpath_laws.proofs.Equations.{meant_step_is}
use Rattle.xpath_laws.proofs.Order.{or_cases, or_right}
use Rattle.xpath_laws.proofs.Short.{dots_are, no_dots}
use Rattle.xpath_laws.proofs.Tells.{each_by_members}
use Rattle.xpath_meaning.specs.Conversions.{first_of}
use Rattle.xpath_meaning.specs.Evaluation.{meant}
use Rattle.xpath_meaning.specs.Match.{fits, fits_below, is_attribute_axis, is_step_to, leads, match_step, passes_all, sources, starts}
use Rattle.xpath_meaning.specs.Meanings.{Meant, MeantStep}
use Rattle.xpath_meaning.specs.Outcome.{Outcome, ◌>>=◌, some_holds}
use Rattle.xpath_meaning.specs.Reading.{Reading}
use Rattle.xpath_meaning.specs.Readings.{reading_of}
use Rattle.xpath_meaning.specs.Tests.{test_of}
use Rattle.xpath_syntax.specs.declared.expression.Expr.{Expr}
use Rattle.xpath_syntax.specs.declared.expression.StepExpr.{out-StepExpr}
use Rattle.xpath_syntax.specs.declared.pattern.PatternStart.{PatternStart}
use Rattle.xpath_syntax.specs.declared.pattern.PatternStep.{PatternStep}
use Rattle.pattern_laws.specs.Selecting.{IsPlainStep}
use Rattle.pattern_laws.proofs.Known.{axis_known, row_known}
use Rattle.pattern_laws.proofs.Leading.{Back, Source, around_visible, some_is}
use Rattle.pattern_laws.proofs.Members.{member_alone, member_here}
use Rattle.pattern_laws.proofs.Rowwise.{is_selected_by, over, parent_selected, selected_is, under}

-- it is known whether something holds, and it does exactly where this is so
pub record Told (o : Outcome Bool) (P : Type 0) : Type 0 where
  pub answer : Bool
  pub known : o ≡ Known answer
  pub means : (answer ≡ true) ↔ P

no_told : (o : Outcome Bool) (P : Type 0) → o ≡ Known false → (P → ⊥) → Told o P
no_told o P e h = record { answer = false; known = e; means = (λ f. absurd (false≢true f), λ p. absurd (h p)) }

told_as : (o q : Outcome Bool) (P Q : Type 0) → q ≡ o → (P → Q) → (Q → P) → Told o P → Told q Q
told_as o q P Q e f g t = record { answer = t.answer; known = e ∙ t.known; means = (λ h. f (t.means.0 h), λ x. t.means.1 (g x)) }

told_some : (f : ℕ → Outcome Bool) (P T : ℕ → Type 0) (ms : List ℕ) → Each T ms → ((m : ℕ) → T m → Told (f m) (P m)) → Told (some_holds f ms) ((m : ℕ) × (is_member m ms ≡ true) × P m)
told_some f P T [] a h = record { answer = false; known = refl; means = (λ e. absurd (false≢true e), λ w. absurd (false≢true w.1)) }
told_some f P T (m ∷ ms) a h = by (h m a.0) (told_some f P T ms a.1 h) ((h m a.0).answer) refl
  where
    by : (t : Told (f m) (P m)) → Told (some_holds f ms) ((k : ℕ) × (is_member k ms ≡ true) × P k) → (b : Bool) → t.answer ≡ b
        → Told (some_holds f (m ∷ ms)) ((k : ℕ) × (is_member k (m ∷ ms) ≡ true) × P k)
    by t u true e = record {
      answer = true;
      known = ap (λ (o : Outcome Bool). o >>= (λ here. cond here (Known true) (some_holds f ms))) (t.known ∙ ap Known e);
      means = (λ x. (m, member_here m ms, t.means.0 e), λ w. refl);
    }
    by t u false e = record {
      answer = u.answer;
      known = ap (λ (o : Outcome Bool). o >>= (λ here. cond here (Known true) (some_holds f ms))) (t.known ∙ ap Known e) ∙ u.known;
      means = (
        (λ x. let w = u.means.0 x in (w.0, or_right (eqb (w.0) m) (is_member (w.0) ms) w.1, w.2)),
        (λ w. elim (or_cases (eqb (w.0) m) (is_member (w.0) ms) w.1) [
          | inl s ↦ absurd (false≢true (sym e ∙ t.means.1 (subst P (eqb-true (w.0) m s) w.2)))
          | inr r ↦ u.means.1 (w.0, r, w.2)
        ]),
      );
    }

known_if : (b : Bool) → ◌≡◌ {A = Outcome Bool} (cond b (Known true) (Known false)) (Known b)
known_if true = refl
known_if false = refl

one_parent : (o : Option ℕ) (a b : ℕ) → o ≡ Some a → o ≡ Some b → a ≡ b
one_parent o a b e f = let g : Some a ≡ Some b = sym e ∙ f in cc

no_parent : (o : Option ℕ) (b : ℕ) → o ≡ None → o ≡ Some b → ⊥
no_parent o b e f = let g : None ≡ Some b = sym e ∙ f in cc

module _ (rules : List StripRule) (keys : List KeyDecl) (id : Option (List ℕ)) (steps : List Step) (lawful : IsLawful steps) (whole : IsComplete steps) where
  abbrev R : Reading
  R = reading_of rules keys id steps

  abbrev rows : List Row
  rows = rows_of steps

  abbrev T : ℕ → Type 0
  T = IsThere rules steps

  tree : TreeHolds rows
  tree = lawful_tree steps lawful.each

  rooted : IsRooted rows
  rooted = lawful_rooted steps lawful.each

  abbrev fit : PatternStep → ℕ → Bool
  fit p n = fits (is_attribute_axis (out-StepExpr p.part).axis) (test_of (out-StepExpr p.part).test) (row_at rows n)

  bare_step : (p : PatternStep) → IsPlainStep p → (match_step p).predicates ≡ []
  bare_step p q = ap (λ (m : MeantStep). m.predicates) (meant_step_is p.part) ∙ ap (λ (es : List Expr). map meant es) q.bare

  no_step : (p : PatternStep) (n : ℕ) → T n → parent_of rows n ≡ None → is_step_to R (match_step p) n ≡ Known false
  no_step p n t up = ap (λ (o : Outcome (List ℕ)). o >>= (λ above. fits_below R (match_step p) n (first_of above))) (no_dots rules keys id steps n t up)

  step_to : (p : PatternStep) → IsPlainStep p → (n a : ℕ) → T n → parent_of rows n ≡ Some a → is_step_to R (match_step p) n ≡ Known (fit p n)
  step_to p q n a t up =
      ap (λ (o : Outcome (List ℕ)). o >>= (λ above. fits_below R (match_step p) n (first_of above))) (dots_are rules keys id steps n a t up)
      ∙ ap (λ (o : Outcome Row). o >>= (λ row. cond (fits (match_step p).attribute (match_step p).test row) (passes_all R (match_step p) a n (match_step p).predicates) (Known false)))
      (row_known rules keys id steps n t)
      ∙ ap (λ (ms : List Meant). cond (fit p n) (passes_all R (match_step p) a n ms) (Known false)) (bare_step p q)
      ∙ known_if (fit p n)

  abbrev from : Bool → ℕ → ℕ → List ℕ
  from true n a = axis_rows rules rows n axis.Ancestor any.Any
  from false n a = a ∷ []

  from_known : (deep : Bool) (n a : ℕ) → T n → parent_of rows n ≡ Some a → sources R deep n ≡ Known (from deep n a)
  from_known true n a t up = axis_known rules keys id steps whole axis.Ancestor any.Any n t
  from_known false n a t up = dots_are rules keys id steps n a t up

  from_source : (deep : Bool) (n a m : ℕ) → T n → parent_of rows n ≡ Some a → is_member m (from deep n a) ≡ true → Source rows deep m a
  from_source false n a m t up h = member_alone m a h
  from_source true n a m t up h =
      let s = selected_is rules rows n axis.Ancestor any.Any m h in
      let o = over rows tree rooted m n t.0 s.on in
      subst (λ b. is_on axis.DescendantOrSelf rows m b ≡ true) (one_parent (parent_of rows n) (o.0) a o.1 up) o.2

  source_from : (deep : Bool) (n a m : ℕ) → T n → parent_of rows n ≡ Some a → Source rows deep m a → is_member m (from deep n a) ≡ true
  source_from false n a m t up s = subst (λ b. is_member m (b ∷ []) ≡ true) s (member_here m [])
  source_from true n a m t up s =
      let b = under rows tree rooted m a n t.0 up s in
      let less = (below_parts rows m n b).0 in
      let there = t.0 in
      let j : m < length rows = omega (arith, less, there) in
      is_selected_by rules rows n axis.Ancestor any.Any m (record { joined = j; visible = around_visible rules rows tree rooted m n j b; meets = refl; on = b })

  from_there : (deep : Bool) (n a : ℕ) → T n → parent_of rows n ≡ Some a → Each T (from deep n a)
  from_there true n a t up = each_by_members T (from true n a) (λ m h. let s = selected_is rules rows n axis.Ancestor any.Any m h in (s.joined, s.visible))
  from_there false n a t up = let s = parent_selected rows tree rooted rules n a n axis.Parent t.0 up (parent_on up) in ((s.joined, s.visible), tt)
    where
      parent_on : parent_of rows n ≡ Some a → is_on axis.Parent rows n a ≡ true
      parent_on e = some_is (parent_of rows n) a e

  module _ (s : PatternStart) (b : ℕ → Bool) (begins : (m : ℕ) → T m → starts R s m ≡ Known (b m)) where
    abbrev Led : List PatternStep → ℕ → Type 0
    Led ps n = (m : ℕ) × T m × (b m ≡ true) × Back rules rows ps m n

    abbrev rest : PatternStep → List PatternStep → ℕ → Outcome Bool
    rest p ps n = sources R p.deep n >>= (λ above. some_holds (leads R s (map match_step ps)) above)

    pub leads_told : (ps : List PatternStep) → Each IsPlainStep ps → (n : ℕ) → T n → Told (leads R s (map match_step ps) n) (Led ps n)
    leads_told [] q n t = record { answer = b n; known = begins n t; means = (λ e. (n, t, e, refl), λ w. subst (λ k. b k ≡ true) w.3 w.2) }
    leads_told (p ∷ ps) q n t = by_parent (λ k u. leads_told ps q.1 k u) (parent_of rows n) refl
      where
        by_fit : ((k : ℕ) → T k → Told (leads R s (map match_step ps) k) (Led ps k)) → (a : ℕ) → parent_of rows n ≡ Some a → (f : Bool) → fit p n ≡ f
            → Told (leads R s (map match_step (p ∷ ps)) n) (Led (p ∷ ps) n)
        by_fit more a up false e = no_told _ _
            (ap (λ (o : Outcome Bool). o >>= (λ here. cond here (rest p ps n) (Known false))) (step_to p q.0 n a t up ∙ ap Known e))
            (λ w. let l = (w.3).1 in false≢true (sym e ∙ (l.1).fits))
        by_fit more a up true e = told_as (some_holds (leads R s (map match_step ps)) (from p.deep n a)) _ ((k : ℕ) × (is_member k (from p.deep n a) ≡ true) × Led ps k) _
            (ap (λ (o : Outcome Bool). o >>= (λ here. cond here (rest p ps n) (Known false))) (step_to p q.0 n a t up ∙ ap Known e)
            ∙ ap (λ (o : Outcome (List ℕ)). o >>= (λ above. some_holds (leads R s (map match_step ps)) above)) (from_known p.deep n a t up))
            (λ w. (
              (w.2).0,
              (w.2).1,
              (w.2).2,
              (w.0, (a, record { joined = t.0; visible = t.1; parent = up; fits = e }, from_source p.deep n a (w.0) t up w.1), (w.2).3),
            ))
            (λ w.
            let k = w.3 in
            let l = k.1 in
            let same = one_parent (parent_of rows n) (l.0) a (l.1).parent up in
            (k.0, source_from p.deep n a (k.0) t up (subst (λ j. Source rows p.deep (k.0) j) same l.2), (w.0, w.1, w.2, k.2)))
            (told_some (leads R s (map match_step ps)) (Led ps) T (from p.deep n a) (from_there p.deep n a t up) more)

        by_parent : ((k : ℕ) → T k → Told (leads R s (map match_step ps) k) (Led ps k)) → (o : Option ℕ) → parent_of rows n ≡ o → Told (leads R s (map match_step (p ∷ ps)) n) (Led (p ∷ ps) n)
        by_parent more None up = no_told _ _
            (ap (λ (o : Outcome Bool). o >>= (λ here. cond here (rest p ps n) (Known false))) (no_step p n t up))
            (λ w. let l = (w.3).1 in no_parent (parent_of rows n) (l.0) up (l.1).parent)
        by_parent more (Some a) up = by_fit more a up (fit p n) refl
