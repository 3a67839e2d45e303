-- The best rule of a fold is the one that decides.
use Rattle.std.proofs.Common.{◌≡◌, ℕ, zero, suc, ◌<◌, ◌≤◌, Bool, true, false, cond, ◌&&◌, List, [], ◌∷◌, Option, Some, None, slice_get, drop, refl, ap, sym, ◌∙◌, subst, arith, inl, inr, ◌⊎◌}
use Rattle.std.proofs.lemmas.Bool.{cases_Bool, and_parts, leb-true, leb-false, le-leb, lt-leb, false≢true}
use Rattle.doc_model.specs.declared.row.Row.{Row}
use Rattle.doc_model.specs.declared.strip_rule.StripRule.{StripRule}
use Rattle.doc_model.specs.Relations.{parent_of}
use Rattle.doc_model.specs.Strip.{best_from, rule_fits, holds_over, space_in, unless_said, keeps_from, keeps_space}
use Rattle.doc_laws.proofs.Links.{parent_before}
use Rattle.strip_rules.proofs.Weighing.{outranks_is}
use Rattle.strip_rules.specs.Deciding.{IsDeciding, weight, Keeps, Here, Above, Nowhere}

same_rule : (a b : StripRule) → Some a ≡ Some b → a ≡ b
same_rule a b h = cc

-- the i-th rule fits, no rule that fits has a higher weight, and none after it has the same
record IsHeaviest (rules : List StripRule) (row : Row) (i : ℕ) (rule : StripRule) : Type 0 where
  pub at : slice_get rules i ≡ Some rule
  pub fits : rule_fits rule row ≡ true
  pub highest : (j : ℕ) (other : StripRule) → slice_get rules j ≡ Some other → rule_fits other row ≡ true → weight other ≤ weight rule
  pub last : (j : ℕ) (other : StripRule) → slice_get rules j ≡ Some other → rule_fits other row ≡ true → i < j → weight other < weight rule

-- either what was best before stays so, or a rule of the rest decides
record Best (best : Option StripRule) (rules : List StripRule) (row : Row) (rule : StripRule) : Type 0 where
  pub cases : ((best ≡ Some rule) × ((j : ℕ) (other : StripRule) → slice_get rules j ≡ Some other → rule_fits other row ≡ true → weight other < weight rule))
      ⊎ ((i : ℕ) × IsHeaviest rules row i rule × ((b : StripRule) → best ≡ Some b → weight b ≤ weight rule))

holds_when : (x : StripRule) (best : Option StripRule) → holds_over x best ≡ true → (b : StripRule) → best ≡ Some b → weight b ≤ weight x
holds_when x best h b e = leb-true (weight b) (weight x) (sym (outranks_is x b) ∙ sym (ap (holds_over x) e) ∙ h)

holds_not : (x : StripRule) (best : Option StripRule) → holds_over x best ≡ false → (b : StripRule) × (best ≡ Some b) × (weight x < weight b)
holds_not x None h = absurd (false≢true (sym h))
holds_not x (Some b) h = (b, refl, leb-false (weight b) (weight x) (sym (outranks_is x b) ∙ h))

best_is : (best : Option StripRule) (rules : List StripRule) (row : Row) (rule : StripRule) → best_from best rules row ≡ Some rule → Best best rules row rule
best_is best [] row rule h = record { cases = inl (h, λ j other e f. absurd (none_some other e)) }
  where
    none_some : (other : StripRule) → None ≡ Some other → ⊥
    none_some other e = cc
best_is best (x ∷ rules) row rule h = elim (cases_Bool (rule_fits x row && holds_over x best)) [
  | inl taken ↦ took taken (best_is (Some x) rules row rule (sym (ap (λ b. best_from (cond b (Some x) best) rules row) taken) ∙ h))
  | inr left ↦ kept left (best_is best rules row rule (sym (ap (λ b. best_from (cond b (Some x) best) rules row) left) ∙ h))
]
  where
    -- a rule of the rest decides, and the head is not above it
    after : (i : ℕ) → IsHeaviest rules row i rule → weight x ≤ weight rule → IsHeaviest (x ∷ rules) row (suc i) rule
    after i d above = record { at = d.at; fits = d.fits; highest = λ j other a f. high j other a f; last = λ j other a f l. low j other a f l }
      where
        high : (j : ℕ) (other : StripRule) → slice_get (x ∷ rules) j ≡ Some other → rule_fits other row ≡ true → weight other ≤ weight rule
        high zero other a f = subst (λ r. weight r ≤ weight rule) (same_rule x other a) above
        high (suc j) other a f = d.highest j other a f

        low : (j : ℕ) (other : StripRule) → slice_get (x ∷ rules) j ≡ Some other → rule_fits other row ≡ true → suc i < j → weight other < weight rule
        low zero other a f l = absurd (omega arith)
        low (suc j) other a f l = d.last j other a f (omega arith)

    -- the head took the place of what was best
    took : (rule_fits x row && holds_over x best) ≡ true → Best (Some x) rules row rule → Best best (x ∷ rules) row rule
    took taken b =
        let p = and_parts (rule_fits x row) (holds_over x best) taken in
        elim b.cases [
          | inl s ↦
              let e : x ≡ rule = same_rule x rule s.0 in
              record {
                cases = inr (
                  0,
                  record {
                    at = ap (λ r. Some r) e;
                    fits = sym (ap (λ r. rule_fits r row) e) ∙ p.0;
                    highest = λ j other a f. go_le j other a f e s.1;
                    last = λ j other a f l. go_lt j other a f l s.1;
                  },
                  λ c q. subst (λ r. weight c ≤ weight r) e (holds_when x best p.1 c q),
                );
              }
          | inr s ↦
              let above : weight x ≤ weight rule = s.2 x refl in
              record { cases = inr (suc (s.0), after (s.0) s.1 above, λ c q. let d = holds_when x best p.1 c q in omega arith) }
        ]
      where
        go_le : (j : ℕ) (other : StripRule) → slice_get (x ∷ rules) j ≡ Some other → rule_fits other row ≡ true → x ≡ rule
            → ((j : ℕ) (other : StripRule) → slice_get rules j ≡ Some other → rule_fits other row ≡ true → weight other < weight rule) → weight other ≤ weight rule
        go_le zero other a f e low = let same : other ≡ rule = sym (same_rule x other a) ∙ e in subst (λ r. weight other ≤ weight r) same (omega arith)
        go_le (suc j) other a f e low = let d = low j other a f in omega arith

        go_lt : (j : ℕ) (other : StripRule) → slice_get (x ∷ rules) j ≡ Some other → rule_fits other row ≡ true → 0 < j
            → ((j : ℕ) (other : StripRule) → slice_get rules j ≡ Some other → rule_fits other row ≡ true → weight other < weight rule) → weight other < weight rule
        go_lt zero other a f l low = absurd (omega arith)
        go_lt (suc j) other a f l low = low j other a f

    -- the head does not fit, or is lower than what was best
    kept : (rule_fits x row && holds_over x best) ≡ false → Best best rules row rule → Best best (x ∷ rules) row rule
    kept left b = elim b.cases [
      | inl s ↦ record { cases = inl (s.0, λ j other a f. low j other a f s.0 s.1) }
      | inr s ↦ elim (cases_Bool (rule_fits x row)) [
        | inl fit ↦
            let n = holds_not x best (sym (ap (λ b. b && holds_over x best) fit) ∙ left) in
            let m = s.2 (n.0) n.1 in
            record { cases = inr (suc (s.0), after (s.0) s.1 (omega (arith, m, n.2)), s.2) }
        | inr off ↦ record { cases = inr (suc (s.0), other_head (s.0) s.1 off, s.2) }
      ]
    ]
      where
        low : (j : ℕ) (other : StripRule) → slice_get (x ∷ rules) j ≡ Some other → rule_fits other row ≡ true → best ≡ Some rule
            → ((j : ℕ) (other : StripRule) → slice_get rules j ≡ Some other → rule_fits other row ≡ true → weight other < weight rule) → weight other < weight rule
        low zero other a f e lower =
            let same : x ≡ other = same_rule x other a in
            let fit : rule_fits x row ≡ true = ap (λ r. rule_fits r row) same ∙ f in
            let n = holds_not x best (sym (ap (λ b. b && holds_over x best) fit) ∙ left) in
            let t : n.0 ≡ rule = same_rule (n.0) rule (sym n.1 ∙ e) in
            subst (λ r. weight r < weight rule) same (subst (λ r. weight x < weight r) t n.2)
        low (suc j) other a f e lower = lower j other a f

        other_head : (i : ℕ) → IsHeaviest rules row i rule → rule_fits x row ≡ false → IsHeaviest (x ∷ rules) row (suc i) rule
        other_head i d off = record { at = d.at; fits = d.fits; highest = λ j other a f. high j other a f; last = λ j other a f l. lower j other a f l }
          where
            high : (j : ℕ) (other : StripRule) → slice_get (x ∷ rules) j ≡ Some other → rule_fits other row ≡ true → weight other ≤ weight rule
            high zero other a f = absurd (false≢true (sym off ∙ ap (λ r. rule_fits r row) (same_rule x other a) ∙ f))
            high (suc j) other a f = d.highest j other a f

            lower : (j : ℕ) (other : StripRule) → slice_get (x ∷ rules) j ≡ Some other → rule_fits other row ≡ true → suc i < j → weight other < weight rule
            lower zero other a f l = absurd (omega arith)
            lower (suc j) other a f l = d.last j other a f (omega arith)

pub best_decides : (rules : List StripRule) (row : Row) (rule : StripRule) → best_from None rules row ≡ Some rule → (i : ℕ) × IsDeciding rules row i rule
best_decides rules row rule h = elim (best_is None rules row rule h).cases [
  | inl s ↦ absurd (never s.0)
  | inr s ↦ (s.0, decides s.1)
]
  where
    never : None ≡ Some rule → ⊥
    never e = cc

    decides : {i : ℕ} → IsHeaviest rules row i rule → IsDeciding rules row i rule
    decides d = record {
      at = d.at;
      fits = d.fits;
      highest = λ j other a f. outranks_is rule other ∙ le-leb (weight other) (weight rule) (d.highest j other a f);
      last = λ j other a f l. outranks_is other rule ∙ lt-leb (weight rule) (weight other) (d.last j other a f l);
    }

-- where something was best, something is
stays_some : (b : StripRule) (rules : List StripRule) (row : Row) → best_from (Some b) rules row ≡ None → ⊥
stays_some b [] row h = cc
stays_some b (x ∷ rules) row h = elim (cases_Bool (rule_fits x row && holds_over x (Some b))) [
  | inl e ↦ stays_some x rules row (sym (ap (λ c. best_from (cond c (Some x) (Some b)) rules row) e) ∙ h)
  | inr e ↦ stays_some b rules row (sym (ap (λ c. best_from (cond c (Some x) (Some b)) rules row) e) ∙ h)
]

pub none_fits : (rules : List StripRule) (row : Row) → best_from None rules row ≡ None → (j : ℕ) (other : StripRule) → slice_get rules j ≡ Some other → rule_fits other row ≡ false
none_fits [] row h j other a = absurd (never a)
  where
    never : None ≡ Some other → ⊥
    never e = cc
none_fits (x ∷ rules) row h j other a = elim (cases_Bool (rule_fits x row)) [
  | inl e ↦ absurd (stays_some x rules row (sym (ap (λ c. best_from (cond (c && true) (Some x) None) rules row) e) ∙ h))
  | inr e ↦ go j a (none_fits rules row (sym (ap (λ c. best_from (cond (c && true) (Some x) None) rules row) e) ∙ h)) e
]
  where
    go : (j : ℕ) → slice_get (x ∷ rules) j ≡ Some other → ((j : ℕ) (other : StripRule) → slice_get rules j ≡ Some other → rule_fits other row ≡ false) → rule_fits x row ≡ false
        → rule_fits other row ≡ false
    go zero a rest e = ap (λ r. rule_fits r row) (sym (same_rule x other a)) ∙ e
    go (suc j) a rest e = rest j other a

-- one row up
keeps_above : (rows : List Row) (most k : ℕ) → ((up : ℕ) → parent_of rows k ≡ Some up → Keeps rows up (keeps_from rows most (parent_of rows up))) → (o : Option ℕ)
    → parent_of rows k ≡ o → Keeps rows k (keeps_from rows (suc most) o)
keeps_above rows most k further None e = Nowhere k e
keeps_above rows most k further (Some up) e = said (space_in (drop (suc up) rows)) refl
  where
    said : (o : Option Bool) → space_in (drop (suc up) rows) ≡ o → Keeps rows k (unless_said o (keeps_from rows most (parent_of rows up)))
    said None s = Above k up (keeps_from rows most (parent_of rows up)) e s (further up e)
    said (Some keeps) s = Here k up keeps e s

keeps_top : (all : List Row) (k : ℕ) → k ≤ 0 → (o : Option ℕ) → parent_of all k ≡ o → Keeps all k (keeps_from all 0 o)
keeps_top rows k l None e = Nowhere k e
keeps_top rows k l (Some up) e = absurd (let b = parent_before rows k up e in omega (arith, b.0))

-- the way up finds the nearest xml:space
keeps_on : (rows : List Row) (most k : ℕ) → k ≤ most → Keeps rows k (keeps_from rows most (parent_of rows k))
keeps_on rows zero k l = keeps_top rows k l (parent_of rows k) refl
keeps_on rows (suc most) k l = keeps_above rows most k (λ up e. keeps_on rows most up (let b = parent_before rows k up e in omega (arith, b.0))) (parent_of rows k) refl

pub keeps_is : (rows : List Row) (k : ℕ) → Keeps rows k (keeps_space rows k)
keeps_is rows k = keeps_on rows k k (omega arith)
