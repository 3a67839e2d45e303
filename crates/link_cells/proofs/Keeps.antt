-- Each step keeps the rule.
use Rattle.std.proofs.Common.{◌≡◌, ◌≢◌, ℕ, zero, suc, ◌<◌, List, [], ◌∷◌, ◌++◌, length, set, true, refl, sym, ap, ◌∙◌, subst}
use Rattle.std.proofs.Common.{length-set, replicate, get_or, get_or-set_same, get_or-set_other}
use Rattle.std.proofs.lemmas.List.{set-get_or, length-replicate}
use mathlib.Core.Option.{Option, some, none, some-ne-none, some-injective}
use mathlib.Core.Logic.{dite}
use mathlib.Core.List.{IsPrefix}
use native.Mathlib.Decide.{ℕ_discrete}
use lib.ListN.{get_elem?}
use Rattle.atomic_table.specs.Table.{State, Me, step, keeps, stepped, opening, Allows, Splits, Joins}
use Rattle.atomic_table.proofs.Lists.{set_again, set_else}
use Rattle.link_cells.specs.declared.entry.Entry.{Entry}
use Rattle.link_cells.specs.declared.layout.Layout.{Layout}
use Rattle.link_cells.specs.declared.plan.Plan.{Plan}
use Rattle.link_cells.specs.declared.view.View.{View}
use Rattle.link_cells.specs.Log.{put, value_at, IsOnce}
use Rattle.link_cells.specs.Views.{writer_view, spent_view, has_seen, has_met, pass_of, hears, is_shown}
use Rattle.link_cells.specs.Views.{IsWriter, IsPass}
use Rattle.link_cells.specs.Rule.{Fits, Seated, Kept}
use Rattle.link_cells.specs.Steps.{Sets, Gets, Meets}
use Rattle.link_cells.proofs.Prefixes.{prefix_self, prefix_more}
use Rattle.link_cells.proofs.Seats.{off, fits_pass, seated_set, seated_turn, seated_push}
use Rattle.link_cells.proofs.Values.{unset_of, value_at-push_other, value_at-push_same, once-push}

zeros_read : (n at : ℕ) → let z : ℕ = 0 in get_or (replicate n z) at z ≡ z
zeros_read zero at = refl
zeros_read (suc n) zero = refl
zeros_read (suc n) (suc at) = zeros_read n at

module _ {S : Type 0} (holds : Layout → List Entry → Type 0) (plan : Plan) where
  -- the log is one set longer
  pub sets : (slots id : ℕ) (me : Me S View) (at value : ℕ) → at < plan.words → IsWriter me.0
      → value ≢ 0 → value_at at me.0.seen ≡ 0 → holds plan.layout (me.0.seen ++ put at value ∷ [])
      → Allows (Kept holds plan) slots id me at (λ _. value) (λ _. Sets (step slots at value 0 none) me value)
  sets slots id me at value inside writes given unset lawful s kept slotted mine small =
      let fits = kept.seats.each id me.0 mine writes.0 in
      let same : me.0.seen ≡ kept.log = fits.whole writes.1 in
      let more = put at value ∷ [] in
      let now = me.0.seen ++ more in
      let once : IsOnce me.0.seen = subst IsOnce (sym same) kept.once in
      let none = unset_of at me.0.seen once unset in
      let still : IsOnce now = once-push at value me.0.seen once none given in
      let longer : (xs : List Entry) → IsPrefix xs kept.log → IsPrefix xs now =
      λ xs p. prefix_more xs me.0.seen more (subst (IsPrefix xs) (sym same) p) in
      let w = has_seen me.0 now in (
        w,
        keeps,
        tt,
        record {
          log = now;
          writer = kept.writer;
          wide = length-set s.words at value ∙ kept.wide;
          words = λ i room.
              dite (ℕ_discrete i at)
              (λ e. subst (λ k. get_or (set s.words at value) k 0 ≡ value_at k now) (sym e)
              (get_or-set_same s.words at value 0 (subst (λ k. at < k) (sym kept.wide) inside)
              ∙ sym (value_at-push_same at value me.0.seen none)))
              (λ ne. get_or-set_other s.words at i value 0 ne
              ∙ (kept.words i room ∙ (ap (value_at i) (sym same) ∙ sym (value_at-push_other i at value me.0.seen ne))));
          once = still;
          lawful = lawful;
          seats = seated_set plan.layout kept.writer kept.log now id s.views me.0 w kept.seats mine
              (λ j u apart e live. let f = kept.seats.each j u e live in
              record {
                seen = longer u.seen f.seen;
                met = longer u.met f.met;
                laid = f.laid;
                one = f.one;
                whole = λ pen. absurd (apart (f.one pen ∙ sym (fits.one writes.1)));
              })
              (λ live.
              record { seen = prefix_self now; met = longer me.0.met fits.met; laid = fits.laid; one = fits.one; whole = λ _. refl })
              (λ _. writes);
        },
        (refl, still),
      )

  -- no word changed
  viewed : (s : State S View) (kept : Kept {S = S} holds plan s) (homes : List (Option S)) (views : List View)
      → Seated kept.log plan.layout kept.writer views
      → Kept {S = S} holds plan (record { words = s.words; homes = homes; views = views })
  viewed s kept homes views seats =
      record {
        log = kept.log;
        writer = kept.writer;
        wide = kept.wide;
        words = kept.words;
        once = kept.once;
        lawful = kept.lawful;
        seats = seats;
      }

  -- a load
  loaded : (s : State S View) (kept : Kept {S = S} holds plan s) (at id : ℕ) (me : Me S View) (w : View)
      → Seated kept.log plan.layout kept.writer (set s.views id w)
      → Kept holds plan (stepped s at (get_or s.words at 0) id me.1 w keeps)
  loaded s kept at id me w seats =
      subst (λ ws. Kept {S = S} holds plan (record { words = ws; homes = s.homes; views = set s.views id w }))
      (sym (set-get_or s.words at 0)) (viewed s kept s.homes (set s.views id w) seats)

  -- a pass has seen the whole log afterwards
  pub gets : (slots id : ℕ) (me : Me S View) (at : ℕ) → at < plan.words → IsPass me.0 → me.0.layout ≡ plan.layout
      → Allows (Kept holds plan) slots id me at (λ n. n) (Gets holds (step slots at 0 0 none) me)
  gets slots id me at inside pass laid s kept slotted mine small =
      let fits = kept.seats.each id me.0 mine pass.0 in
      let w = has_seen me.0 kept.log in (
        w,
        keeps,
        tt,
        loaded s kept at id me w (seated_turn plan.layout kept.writer kept.log id s.views me.0 w kept.seats mine
            (λ _. fits_pass plan.layout kept.writer kept.log id w pass.1 (prefix_self kept.log) fits.met laid)
            (λ pen. absurd (off pass.1 pen.1))),
        (refl, fits.seen, kept.words at inside, kept.once, subst (λ l. holds l kept.log) (sym laid) kept.lawful),
      )

  -- the writer learns that its log begins with what it was told
  pub meets : (slots id : ℕ) (me : Me S View) (at : ℕ) → IsWriter me.0
      → Allows (Kept holds plan) slots id me at (λ n. n) (Meets (step slots at 0 0 none) me)
  meets slots id me at writes s kept slotted mine small =
      let fits = kept.seats.each id me.0 mine writes.0 in
      let w = has_met me.0 [] in (
        w,
        keeps,
        tt,
        loaded s kept at id me w (seated_turn plan.layout kept.writer kept.log id s.views me.0 w kept.seats mine
            (λ _. record { seen = fits.seen; met = (kept.log, refl); laid = fits.laid; one = fits.one; whole = fits.whole })
            (λ _. writes)),
        (refl, subst (IsPrefix me.0.met) (sym (fits.whole writes.1)) fits.met),
      )

  -- a live seat makes a pass that has seen as much
  pub splits : (id : ℕ) (v : View) → v.live ≡ true → Splits {S = S} (Kept holds plan) id v v (pass_of v)
  splits id v live s kept mine =
      let fits = kept.seats.each id v mine live in
      viewed s kept s.homes (set s.views id v ++ pass_of v ∷ [])
      (seated_push plan.layout kept.writer kept.log (set s.views id v) (pass_of v)
      (subst (Seated kept.log plan.layout kept.writer) (sym (set_again s.views id v mine)) kept.seats)
      refl fits.seen (kept.log, refl) fits.laid)

  -- a pass is spent, and another seat has its view b
  joins : (id : ℕ) (v b : View) (other : ℕ) (w : View) → IsPass w
      → ((log : List Entry) (writer : ℕ) → Fits log plan.layout writer id v → Fits log plan.layout writer other w
      → Fits log plan.layout writer id b)
      → v.live ≡ true → (IsWriter v → IsWriter b) → Joins {S = S} (Kept holds plan) id v other w b spent_view
  joins id v b other w pass fit live stays s kept mine apart theirs =
      let was : get_elem? s.views other ≡ some w = sym (set_else s.views id other b apart) ∙ theirs in
      let seats = seated_turn plan.layout kept.writer kept.log id s.views v b kept.seats mine
      (λ _. fit kept.log kept.writer (kept.seats.each id v mine live) (kept.seats.each other w was pass.0)) stays in
      viewed s kept s.homes (set (set s.views id b) other spent_view)
      (seated_turn plan.layout kept.writer kept.log other (set s.views id b) w spent_view seats theirs
      (λ live'. absurd (off refl live')) (λ pen. absurd (off pass.1 pen.1)))

  -- a pass tells another seat what it has seen
  pub tells : (id : ℕ) (v : View) (other : ℕ) (w : View) → v.live ≡ true → IsPass w
      → Joins {S = S} (Kept holds plan) id v other w (hears v w) spent_view
  tells id v other w live pass =
      joins id v (hears v w) other w pass
      (λ log writer f g. record { seen = f.seen; met = g.seen; laid = f.laid; one = f.one; whole = f.whole }) live (λ pen. pen)

  -- a pass takes what another has seen in place of its own
  pub shows : (id : ℕ) (v : View) (other : ℕ) (w : View) → IsPass v → IsPass w
      → Joins {S = S} (Kept holds plan) id v other w (is_shown v w) spent_view
  shows id v other w mine pass =
      joins id v (is_shown v w) other w pass
      (λ log writer f g. fits_pass plan.layout writer log id (is_shown v w) mine.1 g.seen f.met f.laid) mine.0 (λ pen. pen)

  -- the words are 0 and no set was made
  pub begins : (ws : List ℕ) → ws ≡ replicate plan.words 0 → holds plan.layout []
      → Kept {S = S} holds plan (opening ws [] (writer_view plan.layout []))
  begins ws zeros lawful =
      let w = writer_view plan.layout [] in
      record {
        log = [];
        writer = 0;
        wide = ap length zeros ∙ length-replicate plan.words 0;
        words = λ at _. ap (λ l. get_or l at 0) zeros ∙ zeros_read plan.words at;
        once = tt;
        lawful = lawful;
        seats = record {
          each = λ id v e live. one id v e;
          pen = (w, refl, (refl, refl));
        };
      }
    where
      one : (id : ℕ) (v : View) → get_elem? (writer_view plan.layout [] ∷ []) id ≡ some v → Fits [] plan.layout 0 id v
      one zero v e =
          subst (Fits [] plan.layout 0 0) (some-injective _ _ e)
          (record { seen = ([], refl); met = ([], refl); laid = refl; one = λ _. refl; whole = λ _. refl })
      one (suc id) v e = absurd (some-ne-none v (sym e))
