-- What an answer makes of the place of a walk.
use Rattle.std.proofs.Common.{◌≡◌, ℕ, ◌+◌, ◌-◌, ◌^◌, ◌<◌, ◌≤◌, Bool, true, false, cond, not, nat_le, List, [], ◌∷◌, ◌++◌, Some, None, Result, Ok}
use Rattle.std.proofs.Common.{Err, OnErr, unwrap_or, refl, ap, sym, ◌∙◌, subst, arith, inl, inr, ◌⊎◌}
use mir.Val.{bool_byte}
use Rattle.std.proofs.lemmas.Bool.{not-true, false≢true}
use Rattle.doc_model.specs.declared.look.Look.TheVariants as look
use Rattle.doc_model.specs.declared.step.Step.{Step}
use Rattle.doc_model.specs.declared.strip_rule.StripRule.{StripRule}
use Rattle.doc_model.specs.Document.{is_open}
use Rattle.doc_model.specs.Lawful.{IsLawful, IsJoined, Grows, AtStep}
use Rattle.doc_model.specs.Relations.{first_child, next_sibling, parent_of}
use Rattle.doc_model.specs.Rows.{rows_of, row_at}
use Rattle.doc_model.specs.Shown.{first_shown, next_shown}
use Rattle.doc_model.specs.View.{Seen, Moves}
use Rattle.doc_laws.proofs.Growth.{Grows-trans, Grows-refl, prefix_rows, parent_grows, joined_grows}
use Rattle.doc_laws.proofs.Moving.{moves_on}
use Rattle.doc_laws.proofs.Root.{lawful_before}
use Rattle.doc_laws.proofs.Staying.{links_stay}
use Rattle.text_walk.specs.Ask.{AskedIs, decider_of}
use Rattle.text_walk.specs.Text.{text_of, is_event, events_in}
use Rattle.text_walk.specs.Turning.{WaitsFor, IsDone}
use Rattle.text_walk.specs.Walking.{past_at, IsUnderWay, IsBehind}
use Rattle.text_walk.proofs.Measure.{left_of, further, seen_children, upwards}
use Rattle.text_walk.proofs.Text.{event_alone, events_le}
use Rattle.text_walk.proofs.Reach.{at, past_later, past_fits, IsAhead, way_later, entered, child_ahead, sibling_ahead, settled, risen, ended, parent_depth, halted_first, halted_next}

-- what is seen at a place of a walk: as it was at the start, or moved since
abbrev pub HasMoved : {M : Type 0} → Seen M → Seen M → Type 0
HasMoved a b = (b ≡ a) ⊎ Moves a b

pub moved_on : {M : Type 0} (a b c : Seen M) → HasMoved a b → Moves b c → Moves a c
moved_on a b c (inl h) m = subst (λ s. Moves s c) h m
moved_on a b c (inr h) m = moves_on a b c h m

pub moved_grows : {M : Type 0} (a b : Seen M) → HasMoved a b → Grows a.steps b.steps
moved_grows a b (inl h) = subst (λ s. Grows a.steps s.steps) (sym h) (Grows-refl a.steps)
moved_grows a b (inr h) = h.grows

-- a walker that is behind what is seen is under way in it
pub caught_up : {M : Type 0} (b c : Seen M) (n : ℕ) (down : Bool) (depth : ℕ) (bytes : List ℕ) (made : ℕ) → Moves b c → IsBehind (at n down depth made) b.steps bytes
    → IsUnderWay (at n down depth made) b.steps bytes
caught_up b c n down depth bytes made m s = way_later s.0 b.steps n down depth bytes made s.1 (lawful_before b.steps c.steps m.grows m.seen.lawful) s.2

pub behind_joined : (p : List Step) (n : ℕ) (down : Bool) (depth : ℕ) (bytes : List ℕ) (made : ℕ) → IsBehind (at n down depth made) p bytes → IsJoined p n
behind_joined p n down depth bytes made s = joined_grows s.0 p n s.1 s.2.joined

pub behind_here : (p : List Step) (n : ℕ) (down : Bool) (depth : ℕ) (bytes : List ℕ) (made : ℕ) → IsUnderWay (at n down depth made) p bytes → IsBehind (at n down depth made) p bytes
behind_here p n down depth bytes made s = (p, Grows-refl p, s)

pub decider_later : (p q : List Step) (n : ℕ) (down : Bool) → Grows p q → IsJoined p n → decider_of (rows_of q) n down ≡ decider_of (rows_of p) n down
decider_later p q n true g j = refl
decider_later p q n false g j = let r = prefix_rows p q g in ap (λ o. unwrap_or o n) (ap (λ rows. parent_of rows n) r.1 ∙ parent_grows (rows_of p) r.0 n j)

module _ {M : Type 0} (a b c : Seen M) (rules : a.rules ≡ []) (moves : Moves a c) (now : Moves b c) (n depth : ℕ) (bytes : List ℕ) (made : ℕ) where
  no_rules : c.rules ≡ []
  no_rules = moves.rules_stay ∙ rules

  later : (down : Bool) → IsUnderWay (at n down depth made) b.steps bytes → IsUnderWay (at n down depth made) c.steps bytes
  later down s = way_later b.steps c.steps n down depth bytes made now.grows now.seen.lawful s

  pub asked_node : (down : Bool) (k : ℕ) → IsUnderWay (at n down depth made) b.steps bytes → AskedIs b c n down (look.Node k)
      → IsAhead c.steps k (depth + cond down 1 0) bytes made × (k ≡ past_at (rows_of b.steps) n down)
  asked_node true k s h =
      let f : first_child (rows_of c.steps) n ≡ Some k = subst (λ (r : List StripRule). first_shown r (rows_of c.steps) n ≡ Some k) no_rules h in
      let r = child_ahead c.steps n depth k bytes made now.seen.lawful (later true s) f in
      (r.0, r.1 ∙ past_later b.steps c.steps n true now.grows now.seen.lawful s.joined s.shut)
  asked_node false k s h =
      let f : next_sibling (rows_of c.steps) n ≡ Some k = subst (λ (r : List StripRule). next_shown r (rows_of c.steps) n ≡ Some k) no_rules h in
      let r = sibling_ahead c.steps n depth k bytes made now.seen.lawful (later false s) f in
      (r.0, r.1 ∙ past_later b.steps c.steps n false now.grows now.seen.lawful s.joined s.shut)

  pub asked_childless : (down : Bool) → down ≡ true → IsUnderWay (at n down depth made) b.steps bytes → AskedIs b c n down look.Nothing
      → IsUnderWay (at n false depth made) c.steps bytes × (left_of (past_at (rows_of c.steps) n false) n false < left_of (past_at (rows_of b.steps) n down) n down)
  asked_childless false e s h = absurd (false≢true e)
  asked_childless true e s h =
      let f : first_child (rows_of c.steps) n ≡ None = subst (λ (r : List StripRule). first_shown r (rows_of c.steps) n ≡ None) no_rules h.0 in
      let r = settled c.steps n depth bytes made now.seen.lawful (later true s) f (not-true (is_open c.steps n) h.1) in
      (r.0, seen_children (past_at (rows_of b.steps) n true) n (past_at (rows_of c.steps) n false) (r.1 ∙ past_later b.steps c.steps n true now.grows now.seen.lawful s.joined s.shut))

  open_again : (b : Bool) → not b ≡ false → b ≡ true
  open_again true h = refl
  open_again false h = absurd (false≢true (sym h))

  -- past the last child, or waiting, and once more steps are seen
  module _ (d : Seen M) (then : Moves c d) where
    pub asked_waiting : (down : Bool) (m : ℕ) → Grows a.steps b.steps → IsUnderWay (at n down depth made) b.steps bytes → AskedIs b c n down look.NotYet → m ≡ decider_of (rows_of d.steps) n down
        → AtStep a.steps d.steps (WaitsFor (at n down depth made) bytes m)
    asked_waiting true m g s h e =
        let l = lawful_before h.0 c.steps h.2 now.seen.lawful in
        let f : first_child (rows_of h.0) n ≡ None = subst (λ (r : List StripRule). first_shown r (rows_of h.0) n ≡ None) no_rules h.3.0 in
        let w = halted_first h.0 n depth bytes made l (way_later b.steps h.0 n true depth bytes made h.1 l s) f (open_again (is_open h.0 n) h.3.1) in
        (h.0, Grows-trans a.steps b.steps h.0 g h.1, Grows-trans h.0 c.steps d.steps h.2 then.grows, subst (λ k. WaitsFor (at n true depth made) bytes k h.0) (sym e) w)
    asked_waiting false m g s h e =
        let l = lawful_before h.0 c.steps h.2 now.seen.lawful in
        let f : next_sibling (rows_of h.0) n ≡ None = subst (λ (r : List StripRule). next_shown r (rows_of h.0) n ≡ None) no_rules h.3.0 in
        let s' = way_later b.steps h.0 n false depth bytes made h.1 l s in
        let w = halted_next h.0 n depth bytes made l s' f h.3.1 in
        let grows = Grows-trans h.0 c.steps d.steps h.2 then.grows in
        (h.0, Grows-trans a.steps b.steps h.0 g h.1, grows, subst (λ k. WaitsFor (at n false depth made) bytes k h.0) (sym (e ∙ decider_later h.0 d.steps n false grows s'.joined)) w)

    then_later : (down : Bool) → IsUnderWay (at n down depth made) b.steps bytes → IsUnderWay (at n down depth made) d.steps bytes
    then_later down s = way_later c.steps d.steps n down depth bytes made then.grows then.seen.lawful (later down s)

    pub asked_last : (down : Bool) → down ≡ false → IsUnderWay (at n down depth made) b.steps bytes → AskedIs b c n down look.Nothing → (up : ℕ) → parent_of (rows_of d.steps) n ≡ Some up
        → IsUnderWay (at up down (depth - 1) made) d.steps bytes × (left_of (past_at (rows_of d.steps) up down) up down < left_of (past_at (rows_of b.steps) n down) n down)
    asked_last true z s h up e = absurd (false≢true (sym z))
    asked_last false z s h up e =
        let f : next_shown [] (rows_of c.steps) n ≡ None = subst (λ (r : List StripRule). next_shown r (rows_of c.steps) n ≡ None) no_rules h.0 in
        let was = later false s in
        let stay = (links_stay [] c.steps d.steps n then.grows then.seen.lawful was.joined).next.nothing f h.1 in
        let r = risen d.steps n up depth bytes made then.seen.lawful (then_later false s) stay.0 e stay.1 in (
          r.0,
          upwards (past_at (rows_of b.steps) n false) n (past_at (rows_of d.steps) up false) up
              (r.1 ∙ past_later c.steps d.steps n false then.grows then.seen.lawful was.joined was.shut ∙ past_later b.steps c.steps n false now.grows now.seen.lawful s.joined s.shut) r.2,
        )

    -- only the root, which has depth 0, is no row's child
    pub asked_below : (down : Bool) → IsUnderWay (at n down depth made) b.steps bytes → (up : ℕ) → parent_of (rows_of d.steps) n ≡ Some up → 1 ≤ depth
    asked_below down s up e = let t = then_later down s in omega (arith, t.depth, parent_depth (rows_of d.steps) n up t.joined e)

    pub asked_end : (down : Bool) → down ≡ false → IsUnderWay (at n down depth made) b.steps bytes → parent_of (rows_of d.steps) n ≡ None → IsDone (at n down depth made) bytes d.steps
    asked_end true z s e = absurd (false≢true (sym z))
    asked_end false z s e = ended d.steps n depth bytes made then.seen.lawful (then_later false s) e

pub ahead_at : (p : List Step) (k depth now : ℕ) (bytes : List ℕ) (made : ℕ) → now ≡ depth → IsAhead p k depth bytes made → IsAhead p k now bytes made
ahead_at p k depth now bytes made e a = subst (λ d. IsAhead p k d bytes made) (sym e) a

-- the bytes that stayed are those of the walk
pub kept : (p : List Step) (n : ℕ) (down : Bool) (depth : ℕ) (bytes now : List ℕ) (made : ℕ) → now ≡ bytes → IsUnderWay (at n down depth made) p bytes → IsUnderWay (at n down depth made) p now
kept p n down depth bytes now made e s = subst (IsUnderWay (at n down depth made) p) (sym e) s

pub on_err : {X Y : Type 0} (result : Result X Y) {P : Type 0} → P → OnErr result P
on_err (Ok x) p = tt
on_err (Err y) p = p

-- the next row is taken
pub taken : (p : List Step) (k depth : ℕ) (bytes : List ℕ) (made : ℕ) (more : List ℕ) (event : Bool) (count : ℕ) → IsAhead p k depth bytes made → nat_le 500 depth ≡ false
    → more ≡ bytes ++ text_of (row_at (rows_of p) k ∷ []) → event ≡ is_event (row_at (rows_of p) k) → count ≡ cond event 1 0 → IsUnderWay (at k true depth (made + count)) p more
taken p k depth bytes made more event count a h t e m =
    let s = entered p k depth bytes made a h in
    let n : count ≡ events_in (row_at (rows_of p) k ∷ []) = m ∙ sym (event_alone (row_at (rows_of p) k) event (sym e)) in
    subst (λ j. IsUnderWay (at k true depth (made + j)) p more) (sym n) (subst (λ xs. IsUnderWay (at k true depth (made + events_in (row_at (rows_of p) k ∷ []))) p xs) (sym t) s)

pub taken_further : (p : List Step) (k depth : ℕ) (bytes : List ℕ) (made past n : ℕ) (down : Bool) → IsLawful p → IsAhead p k depth bytes made → k ≡ past
    → left_of (past_at (rows_of p) k true) k true < left_of past n down
taken_further p k depth bytes made past n down l a e =
    let fits = past_fits p k true a.joined in
    let j = a.joined in
    let few = l.few in
    further past n down (past_at (rows_of p) k true) k (omega arith) (omega arith) (omega arith)

pub few_events : (p : List Step) (k depth : ℕ) (bytes : List ℕ) (made : ℕ) → IsLawful p → IsAhead p k depth bytes made → made < 2 ^ 32
few_events p k depth bytes made l a = let j = a.joined in let few = l.few in let e = a.given.events in omega (arith, e, events_le (rows_of p) k)

-- a truth as a number
pub as_count : (b : Bool) → bool_byte b ≡ cond b 1 0
as_count true = refl
as_count false = refl

pub at_most_one : (b : Bool) → cond b 1 0 ≤ 1
at_most_one true = omega arith
at_most_one false = omega arith
