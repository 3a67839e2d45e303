use Rattle.std.proofs.Common.{◌≡◌, ◌+◌, ◌∙◌, ℕ, All, Some, refl, sym, subst, arith, append-nil, string_bytes, length}
use Rattle.std.proofs.lemmas.Bool.{false≢true}
use Rattle.cmd_words.specs.Items.{IsItem}
use Rattle.line_feeder.specs.declared.fed.Fed.TheVariants as fed
use Rattle.line_feeder.specs.Feeds.{feeds_of}
use Rattle.turn_play.specs.Progress.{made_after}
use Rattle.turn_play.specs.Turns.{repeated, total}
use Rattle.turn_play.proofs.TurnLemmas.{total-feeds}
use Rattle.turn_play.proofs.LeaveLemmas.{Asking, IsAt-at, leaves_nothing, leaves_join}
use Rattle.turn_play.proofs.PlayLemmas.{told_last, pass_said, once_said, pass_more, total_pass}
use Rattle.turn_play.proofs.play.play_turns.Goals as goal

pub passes-init : goal.passes-init
passes-init g c =
    let begun = c.fed_lines_are_a_beginning.ensures in
    let law : Asking = record { going = begun.going; later = c.what_was_asked_stays_asked.ensures } in
    record {
      pass = 0;
      leaves = leaves_nothing law _ _ _ _ 0 refl c.requires.going refl refl c.requires.holds refl (λ limits told count at. at);
      once = λ still. refl;
      said = λ limits bytes at. sym (append-nil (string_bytes c.args.said.now));
    }

pub passes-preserved : goal.passes-preserved
passes-preserved g c =
    let i = c.passes.invariant in
    let e = c.in-Line.ensures in
    let items = c.args.items.now in
    record {
      pass = i.pass + 1;
      leaves = leaves_join _ _ _ _ _ _ _ _ _ (total (repeated i.pass items)) (total items) _ fed.Line (total_pass i.pass items) i.leaves e.leaves;
      once = λ still. absurd (false≢true (sym still ∙ c.if-not-feeding.false));
      said = λ limits bytes at. pass_more (made_after limits bytes) (feeds_of limits bytes) i.pass items _ _ _ (i.said limits bytes at)
          (e.said limits bytes (total (repeated i.pass items))
          (IsAt-at _ limits (Some bytes) _ (0 + total (repeated i.pass items)) (total (repeated i.pass items)) (omega arith) (i.leaves.going refl limits (Some bytes) 0 at)) tt);
    }

pub passes-smaller : goal.passes-smaller
passes-smaller g c =
    let i = c.passes.invariant in
    let items = c.args.items.now in
    let given = c.in-Line.ensures.leaves.given refl in
    let each = subst (λ (n : ℕ). All (IsItem n) items) (sym i.leaves.readers) c.requires.items in
    let some = total-feeds _ items each (sym c.any_feeds-feeding.ensures ∙ c.if-not-feeding.false) in
    let bound = given.1 (omega (arith, some)) in
    omega (arith, given.0, bound, some)

pub returns-in_default : goal.returns-in_default
returns-in_default g c =
    let i = c.passes.invariant in
    let e = c.play_items.ensures in
    let items = c.args.items.now in
    record {
      leaves = (total (repeated i.pass items) + total items, leaves_join _ _ _ _ _ _ _ _ _ (total (repeated i.pass items)) (total items) _ _ refl i.leaves e.leaves);
      said = λ limits bytes at tells.
          let here = IsAt-at _ limits (Some bytes) _ (0 + total (repeated i.pass items)) (total (repeated i.pass items)) (omega arith) (i.leaves.going refl limits (Some bytes) 0 at) in
          let last = told_last limits bytes _ (total (repeated i.pass items)) (total items) _ _ c.in_default.not-Line tells (e.leaves.found c.in_default.not-Line limits (Some bytes) _ here) in
          pass_said (made_after limits bytes) limits bytes _ i.pass items _ _ _ c.requires.items last (i.said limits bytes at) (e.said limits bytes _ here tells);
      over = c.in_default.not-Line;
    }

pub returns-then-not-feeding : goal.returns-then-not-feeding
returns-then-not-feeding g c =
    let i = c.passes.invariant in
    let e = c.in-Line.ensures in
    let items = c.args.items.now in
    let rest = c.feed_rest.ensures.leaves in
    let before = leaves_join _ _ _ _ _ _ _ _ _ (total (repeated i.pass items)) (total items) _ fed.Line refl i.leaves e.leaves in
    record {
      leaves = (total (repeated i.pass items) + total items + rest.0, leaves_join _ _ _ _ _ _ _ _ _ _ rest.0 _ _ refl before rest.1);
      said = λ limits bytes at tells.
          let here = IsAt-at _ limits (Some bytes) _ (0 + total (repeated i.pass items)) (total (repeated i.pass items)) (omega arith) (i.leaves.going refl limits (Some bytes) 0 at) in
          once_said (made_after limits bytes) (feeds_of limits bytes) i.pass items _ _ _ (sym c.any_feeds-feeding.ensures ∙ c.if-not-feeding.true) (i.once c.if-not-feeding.true)
          (i.said limits bytes at)
          (e.said limits bytes _ here tt);
      over = c.feed_rest.ensures.over;
    }

pub feed_rest-requires : goal.feed_rest-requires
feed_rest-requires g c = record { going = c.in-Line.ensures.leaves.kept (λ is. absurd (line_is_not_memory is)); holds = c.in-Line.ensures.leaves.holds }
  where
    line_is_not_memory : fed.Line ≡ fed.Memory → ⊥
    line_is_not_memory is = cc
