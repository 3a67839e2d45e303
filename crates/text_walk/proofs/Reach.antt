-- How far a walk has come: the rows up to those of what it stands at.
use Rattle.std.proofs.Common.{◌≡◌, ℕ, suc, ◌+◌, ◌-◌, ◌<◌, ◌≤◌, Bool, true, false, not, ◌&&◌, nat_le, List, [], ◌∷◌, ◌++◌, length, Option, Some, None}
use Rattle.std.proofs.Common.{unwrap_or, take, refl, ap, sym, ◌∙◌, subst, arith, inl, inr}
use Rattle.std.proofs.lemmas.Bool.{cases_Bool, and_parts, not-true, false≢true, eqb-true, leb-false}
use Rattle.std.proofs.lemmas.List.{take_all, take-append-le}
use Rattle.doc_model.specs.declared.row.Row.{Row}
use Rattle.doc_model.specs.declared.step.Step.{Step}
use Rattle.doc_model.specs.Document.{is_attribute, is_open}
use Rattle.doc_model.specs.Lawful.{IsLawful, Grows, IsJoined}
use Rattle.doc_model.specs.Relations.{is_child, first_child, next_among, next_sibling, sibling_parent, parent_of, extent_of}
use Rattle.doc_model.specs.Rows.{rows_of, row_at}
use Rattle.doc_model.specs.View.{is_settled}
use Rattle.doc_laws.proofs.Numbers.{first_some, next_some}
use Rattle.doc_laws.proofs.Growth.{prefix_rows, joined_grows}
use Rattle.doc_laws.proofs.Kids.{child_decider}
use Rattle.doc_laws.proofs.Links.{parent_before}
use Rattle.doc_laws.proofs.Parents.{parent_is}
use Rattle.doc_laws.proofs.Ends.{shut_grows, extent_le, open_contains}
use Rattle.doc_laws.proofs.Root.{root_extent, root_shut}
use Rattle.doc_laws.proofs.Staying.{data_stay}
use Rattle.text_walk.specs.declared.fault.FaultKind.TheVariants.{TooDeep}
use Rattle.text_walk.specs.Ask.{decider_of}
use Rattle.text_walk.specs.BuiltIn.{is_too_deep, reached, fault_of}
use Rattle.text_walk.specs.Text.{text_of, events_in}
use Rattle.text_walk.specs.Turning.{WaitsFor, IsDone, HasFault}
use Rattle.text_walk.specs.Walking.{Walking, past_at, IsUnderWay, Stands}
use Rattle.text_walk.proofs.Order.{ordered_rows, parent_plain, plain_decider, decided}
use Rattle.text_walk.proofs.Text.{text_past, events_past, count_fits}
use Rattle.text_walk.proofs.Deep.{reached_all, fault_here, shallow_past, shallow_at}

abbrev pub at : ℕ → Bool → ℕ → ℕ → Walking
at n down depth made = record { row = n; down = down; depth = depth; made = made }

-- none of the first rows is too deep, and they have given so much
pub record HasPast (steps : List Step) (past : ℕ) (bytes : List ℕ) (made : ℕ) : Type 0 where
  pub shallow : fault_of (take past (rows_of steps)) ≡ None
  pub text : bytes ≡ text_of (take past (rows_of steps))
  pub events : made ≡ events_in (take past (rows_of steps))

-- the row that comes next, at this depth
pub record IsAhead (steps : List Step) (found deep : ℕ) (bytes : List ℕ) (made : ℕ) : Type 0 where
  pub joined : found < length (rows_of steps)
  pub plain : is_attribute (row_at (rows_of steps) found).kind ≡ false
  pub depth : deep ≡ (row_at (rows_of steps) found).depth
  pub given : HasPast steps found bytes made

given_of : (p : List Step) (n : ℕ) (down : Bool) (depth : ℕ) (bytes : List ℕ) (made : ℕ) → IsUnderWay (at n down depth made) p bytes → HasPast p (past_at (rows_of p) n down) bytes made
given_of p n down depth bytes made s = record { shallow = s.shallow; text = s.text; events = s.events }

given_at : (p : List Step) (j k : ℕ) (bytes : List ℕ) (made : ℕ) → j ≡ k → HasPast p j bytes made → HasPast p k bytes made
given_at p j k bytes made e h = subst (λ i. HasPast p i bytes made) e h

under_way : (p : List Step) (n : ℕ) (down : Bool) (depth : ℕ) (bytes : List ℕ) (made : ℕ) → IsJoined p n → is_attribute (row_at (rows_of p) n).kind ≡ false
    → (down ≡ false → is_open p n ≡ false) → depth ≡ (row_at (rows_of p) n).depth → HasPast p (past_at (rows_of p) n down) bytes made → IsUnderWay (at n down depth made) p bytes
under_way p n down depth bytes made j k s d h = record { joined = j; plain = k; shut = s; depth = d; shallow = h.shallow; text = h.text; events = h.events }

take_later : (p q : List Step) (k : ℕ) → Grows p q → k ≤ length (rows_of p) → take k (rows_of q) ≡ take k (rows_of p)
take_later p q k g h = let r = prefix_rows p q g in ap (take k) r.1 ∙ take-append-le k (rows_of p) r.0 h

given_later : (p q : List Step) (k : ℕ) (bytes : List ℕ) (made : ℕ) → Grows p q → k ≤ length (rows_of p) → HasPast p k bytes made → HasPast q k bytes made
given_later p q k bytes made g l h = record {
  shallow = ap fault_of (take_later p q k g l) ∙ h.shallow;
  text = h.text ∙ ap text_of (sym (take_later p q k g l));
  events = h.events ∙ ap events_in (sym (take_later p q k g l));
}

pub past_fits : (p : List Step) (n : ℕ) (down : Bool) → IsJoined p n → past_at (rows_of p) n down ≤ length (rows_of p)
past_fits p n true j = count_fits (rows_of p) n j
past_fits p n false j = extent_le (rows_of p) n j

pub past_later : (p q : List Step) (n : ℕ) (down : Bool) → Grows p q → IsLawful q → IsJoined p n → (down ≡ false → is_open p n ≡ false) → past_at (rows_of q) n down ≡ past_at (rows_of p) n down
past_later p q n true g l j s = ap (λ k. suc n + k) (data_stay [] p q n g l j).attr_count
past_later p q n false g l j s = (shut_grows p q n g l j (s refl)).1

kind_later : (p q : List Step) (n : ℕ) → Grows p q → IsLawful q → IsJoined p n → is_attribute (row_at (rows_of p) n).kind ≡ false → is_attribute (row_at (rows_of q) n).kind ≡ false
kind_later p q n g l j h = ap (λ (r : Row). is_attribute r.kind) (data_stay [] p q n g l j).row ∙ h

depth_later : (p q : List Step) (n depth : ℕ) → Grows p q → IsLawful q → IsJoined p n → depth ≡ (row_at (rows_of p) n).depth → depth ≡ (row_at (rows_of q) n).depth
depth_later p q n depth g l j h = h ∙ sym (ap (λ (r : Row). r.depth) (data_stay [] p q n g l j).row)

-- what was given of steps was given of the beginning of all that they grow to
pub way_later : (p q : List Step) (n : ℕ) (down : Bool) (depth : ℕ) (bytes : List ℕ) (made : ℕ) → Grows p q → IsLawful q → IsUnderWay (at n down depth made) p bytes
    → IsUnderWay (at n down depth made) q bytes
way_later p q n down depth bytes made g l s = under_way q n down depth bytes made
    (joined_grows p q n g s.joined)
    (kind_later p q n g l s.joined s.plain)
    (λ e. (shut_grows p q n g l s.joined (s.shut e)).0)
    (depth_later p q n depth g l s.joined s.depth)
    (given_at q _ _ bytes made (sym (past_later p q n down g l s.joined s.shut)) (given_later p q _ bytes made g (past_fits p n down s.joined) (given_of p n down depth bytes made s)))

pub ahead_later : (p q : List Step) (n depth : ℕ) (bytes : List ℕ) (made : ℕ) → Grows p q → IsLawful q → IsAhead p n depth bytes made → IsAhead q n depth bytes made
ahead_later p q n depth bytes made g l s = record {
  joined = joined_grows p q n g s.joined;
  plain = kind_later p q n g l s.joined s.plain;
  depth = depth_later p q n depth g l s.joined s.depth;
  given = given_later p q n bytes made g (let j = s.joined in omega arith) s.given;
}

-- at the start the root has given nothing
pub way_first : IsUnderWay (at 0 true 0 0) [] []
way_first = record { joined = omega arith; plain = refl; shut = λ e. absurd (false≢true (sym e)); depth = refl; shallow = refl; text = refl; events = refl }

deep_plain : (row : Row) → is_attribute row.kind ≡ false → is_too_deep row ≡ nat_le 500 row.depth
deep_plain row h = ap (λ b. not b && nat_le 500 row.depth) h

pub entered : (p : List Step) (found depth : ℕ) (bytes : List ℕ) (made : ℕ) → IsAhead p found depth bytes made → nat_le 500 depth ≡ false
    → IsUnderWay (at found true depth (made + events_in (row_at (rows_of p) found ∷ []))) p (bytes ++ text_of (row_at (rows_of p) found ∷ []))
entered p found depth bytes made a h = under_way p found true depth _ _ a.joined a.plain (λ e. absurd (false≢true (sym e))) a.depth (record {
  shallow = shallow_past (rows_of p) found a.joined a.given.shallow (deep_plain (row_at (rows_of p) found) a.plain ∙ sym (ap (nat_le 500) a.depth) ∙ h);
  text = ap (λ xs. xs ++ text_of (row_at (rows_of p) found ∷ [])) a.given.text ∙ sym (text_past (rows_of p) found a.joined);
  events = ap (λ k. k + events_in (row_at (rows_of p) found ∷ [])) a.given.events ∙ sym (events_past (rows_of p) found a.joined);
})

-- a next row of depth 500 is the first that is too deep
pub faulted : (p : List Step) (walker : Walking) (found depth : ℕ) (bytes : List ℕ) → IsUnderWay walker p bytes → IsAhead p found depth bytes walker.made → nat_le 500 depth ≡ true
    → HasFault walker bytes TooDeep p
faulted p walker found depth bytes s a h =
    let f = fault_here (rows_of p) found a.joined a.given.shallow (deep_plain (row_at (rows_of p) found) a.plain ∙ sym (ap (nat_le 500) a.depth) ∙ h) in
    record { fault = f.0; stands = record { text = a.given.text ∙ ap text_of (sym f.1); made = a.given.events ∙ ap events_in (sym f.1); under_way = s } }

-- a row is one deeper than its parent
pub parent_depth : (rows : List Row) (n q : ℕ) → n < length rows → parent_of rows n ≡ Some q → (row_at rows n).depth ≡ suc (row_at rows q).depth
parent_depth rows n q l e = sym (eqb-true _ _ (and_parts _ _ (parent_is rows n q l e).above).1)

-- a walker stands below the depth that is too deep
pub not_deep : (p : List Step) (n : ℕ) (down : Bool) (depth : ℕ) (bytes : List ℕ) (made : ℕ) → IsUnderWay (at n down depth made) p bytes → depth < 500
not_deep p n down depth bytes made s = let d =
    s.depth in leb-false 500 depth (ap (nat_le 500) d ∙ sym (deep_plain (row_at (rows_of p) n) s.plain) ∙ shallow_at (rows_of p) (past_at (rows_of p) n down) n s.shallow (here down) s.joined)
  where
    here : (down : Bool) → n < past_at (rows_of p) n down
    here true = omega arith
    here false = omega arith

pub child_ahead : (p : List Step) (n depth found : ℕ) (bytes : List ℕ) (made : ℕ) → IsLawful p → IsUnderWay (at n true depth made) p bytes → first_child (rows_of p) n ≡ Some found
    → IsAhead p found (depth + 1) bytes made × (found ≡ past_at (rows_of p) n true)
child_ahead p n depth found bytes made l s h =
    let place = (ordered_rows p l.each).first n found s.joined h in
    let f = first_some (is_child (rows_of p) n) 0 (length (rows_of p)) found h in
    let joined : found < length (rows_of p) = omega (arith, f.within) in
    let up = (decided (rows_of p) found n (child_decider (rows_of p) n found f.passes)).1 in
    let deep = parent_depth (rows_of p) found n joined up in (
      record {
        joined = joined;
        plain = not-true _ (and_parts _ _ f.passes).0;
        depth = omega (arith, deep, s.depth);
        given = given_at p _ _ bytes made (sym place) (given_of p n true depth bytes made s);
      },
      place,
    )

-- a next sibling is a child of the parent
next_is : (rows : List Row) (n found : ℕ) (o : Option ℕ) → n < length rows → next_among rows n o ≡ Some found → (q : ℕ) × (o ≡ Some q) × (found < length rows) × (is_child rows q found ≡ true)
next_is rows n found None l h = absurd cc
next_is rows n found (Some q) l h = let f = next_some (is_child rows q) n (length rows) found l h in (q, refl, f.within, f.passes)

pub sibling_ahead : (p : List Step) (n depth found : ℕ) (bytes : List ℕ) (made : ℕ) → IsLawful p → IsUnderWay (at n false depth made) p bytes → next_sibling (rows_of p) n ≡ Some found
    → IsAhead p found (depth + 0) bytes made × (found ≡ past_at (rows_of p) n false)
sibling_ahead p n depth found bytes made l s h =
    let place = (ordered_rows p l.each).next n found s.joined h in
    let f = next_is (rows_of p) n found (sibling_parent (rows_of p) n) s.joined h in
    let near = parent_depth (rows_of p) n f.0 s.joined (decided (rows_of p) n f.0 f.1).1 in
    let far = parent_depth (rows_of p) found f.0 f.2 (decided (rows_of p) found f.0 (child_decider (rows_of p) f.0 found f.3)).1 in (
      record {
        joined = f.2;
        plain = not-true _ (and_parts _ _ f.3).0;
        depth = omega (arith, near, far, s.depth);
        given = given_at p _ _ bytes made (sym place) (given_of p n false depth bytes made s);
      },
      place,
    )

-- a shut row without children is past
pub settled : (p : List Step) (n depth : ℕ) (bytes : List ℕ) (made : ℕ) → IsLawful p → IsUnderWay (at n true depth made) p bytes → first_child (rows_of p) n ≡ None → is_open p n ≡ false
    → IsUnderWay (at n false depth made) p bytes × (past_at (rows_of p) n false ≡ past_at (rows_of p) n true)
settled p n depth bytes made l s h c =
    let place = (ordered_rows p l.each).childless n s.joined s.plain h in
    (under_way p n false depth bytes made s.joined s.plain (λ e. c) s.depth (given_at p _ _ bytes made (sym place) (given_of p n true depth bytes made s)), place)

-- past the last child its parent is past
pub risen : (p : List Step) (n up depth : ℕ) (bytes : List ℕ) (made : ℕ) → IsLawful p → IsUnderWay (at n false depth made) p bytes → next_sibling (rows_of p) n ≡ None
    → parent_of (rows_of p) n ≡ Some up → is_settled p (sibling_parent (rows_of p) n) ≡ true
    → IsUnderWay (at up false (depth - 1) made) p bytes × (past_at (rows_of p) up false ≡ past_at (rows_of p) n false) × (up < n)
risen p n up depth bytes made l s h e t =
    let place = (ordered_rows p l.each).last n up s.joined s.plain e h in
    let b = parent_before (rows_of p) n up e in
    let shut : is_open p up ≡ false = not-true (is_open p up) (sym (ap (is_settled p) (plain_decider (rows_of p) n s.plain ∙ e)) ∙ t) in
    let above = (parent_is (rows_of p) n up s.joined e).above in
    let deep = parent_depth (rows_of p) n up s.joined e in (
      under_way p up false (depth - 1) bytes made b.1 (parent_plain (row_at (rows_of p) up) (and_parts _ _ above).0) (λ e. shut) (omega (arith, deep, s.depth))
          (given_at p _ _ bytes made (sym place) (given_of p n false depth bytes made s)),
      place,
      b.0,
    )

-- where all rows are past, the walker has given what the rules make of the steps
whole_stands : (p : List Step) (walker : Walking) (bytes : List ℕ) → IsUnderWay walker p bytes → HasPast p (length (rows_of p)) bytes walker.made
    → (fault_of (rows_of p) ≡ None) × Stands walker p bytes
whole_stands p walker bytes s h =
    let all = take_all (length (rows_of p)) (rows_of p) (omega arith) in
    let sound : fault_of (rows_of p) ≡ None = sym (ap fault_of all) ∙ h.shallow in
    let same : take (length (rows_of p)) (rows_of p) ≡ reached (rows_of p) = all ∙ sym (reached_all (rows_of p) sound) in
    (sound, record { text = h.text ∙ ap text_of same; made = h.events ∙ ap events_in same; under_way = s })

-- only the root has no parent: where it is past, all is
pub ended : (p : List Step) (n depth : ℕ) (bytes : List ℕ) (made : ℕ) → IsLawful p → IsUnderWay (at n false depth made) p bytes → parent_of (rows_of p) n ≡ None
    → IsDone (at n false depth made) bytes p
ended p n depth bytes made l s h =
    let z : n ≡ 0 = (ordered_rows p l.each).rooted n s.joined h in
    let w = whole_stands p (at n false depth made) bytes s (given_at p _ _ bytes made (ap (extent_of (rows_of p)) z ∙ root_extent p l.each) (given_of p n false depth bytes made s)) in
    record { shut = sym (ap (is_open p) z) ∙ s.shut refl; sound = w.0; stands = w.1 }

root_open : (p : List Step) (n : ℕ) → IsLawful p → is_open p n ≡ true → is_open p 0 ≡ true
root_open p n l h = elim (cases_Bool (is_open p 0)) [
  | inl e ↦ e
  | inr e ↦ absurd (false≢true (sym (root_shut p n l.each e) ∙ h))
]

-- a row that waits for a child, or for a sibling, is where the rows end
pub halted_first : (p : List Step) (n depth : ℕ) (bytes : List ℕ) (made : ℕ) → IsLawful p → IsUnderWay (at n true depth made) p bytes → first_child (rows_of p) n ≡ None
    → is_open p n ≡ true → WaitsFor (at n true depth made) bytes n p
halted_first p n depth bytes made l s h o =
    let w = whole_stands p (at n true depth made) bytes s
    (given_at p _ _ bytes made (sym ((ordered_rows p l.each).childless n s.joined s.plain h) ∙ open_contains p n l.each o) (given_of p n true depth bytes made s)) in
    record { waits = o; going = root_open p n l o; sound = w.0; stands = w.1 }

not_false : (b : Bool) → not b ≡ false → b ≡ true
not_false true h = refl
not_false false h = absurd (false≢true (sym h))

waits_under : (p : List Step) (o : Option ℕ) → is_settled p o ≡ false → (q : ℕ) × (o ≡ Some q) × (is_open p q ≡ true)
waits_under p None h = absurd (false≢true (sym h))
waits_under p (Some q) h = (q, refl, not_false (is_open p q) h)

pub halted_next : (p : List Step) (n depth : ℕ) (bytes : List ℕ) (made : ℕ) → IsLawful p → IsUnderWay (at n false depth made) p bytes → next_sibling (rows_of p) n ≡ None
    → is_settled p (sibling_parent (rows_of p) n) ≡ false → WaitsFor (at n false depth made) bytes (decider_of (rows_of p) n false) p
halted_next p n depth bytes made l s h t =
    let u = waits_under p (sibling_parent (rows_of p) n) t in
    let d = decided (rows_of p) n u.0 u.1 in
    let w = whole_stands p (at n false depth made) bytes s
    (given_at p _ _ bytes made (sym ((ordered_rows p l.each).last n u.0 s.joined s.plain d.1 h) ∙ open_contains p u.0 l.each u.2) (given_of p n false depth bytes made s)) in
    let here : u.0 ≡ unwrap_or (parent_of (rows_of p) n) n = sym (ap (λ o. unwrap_or o n) d.1) in
    record { waits = sym (ap (is_open p) here) ∙ u.2; going = root_open p u.0 l u.2; sound = w.0; stands = w.1 }
