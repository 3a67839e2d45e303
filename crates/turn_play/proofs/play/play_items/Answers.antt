use Rattle.std.proofs.Common.{◌+◌, ◌∙◌, ◌∷◌, [], Some, refl, sym, arith, take, get_or, append-nil, string_bytes}
use Rattle.std.proofs.lemmas.List.{take_all}
use Rattle.cmd_words.specs.declared.item.Item.TheVariants.{Lines}
use Rattle.line_feeder.specs.declared.fed.Fed.TheVariants as fed
use Rattle.line_feeder.specs.Feeds.{feeds_of}
use Rattle.turn_play.specs.Progress.{made_after}
use Rattle.turn_play.specs.Turns.{total}
use Rattle.turn_play.proofs.LeaveLemmas.{Asking, leaves_nothing, leaves_join, leaves_within, leaves_as}
use Rattle.turn_play.proofs.PlayLemmas.{told_last, total_more, total_within, items_said, last_said, TellsAll-line}
use Rattle.turn_play.proofs.play.play_items.Goals as goal

pub loop-item-init : goal.loop-item-init
loop-item-init g c =
    let begun = c.fed_lines_are_a_beginning.ensures in
    let law : Asking = record { going = begun.going; later = c.what_was_asked_stays_asked.ensures } in
    record {
      leaves = leaves_nothing law _ _ _ _ 0 refl c.requires.going refl refl c.requires.holds refl (λ limits told count at. at);
      said = λ limits bytes count at. sym (append-nil (string_bytes c.args.said.now));
    }

pub loop-item-preserved : goal.loop-item-preserved
loop-item-preserved g c =
    let i = c.loop-item.invariant in
    let e = c.in-Line.ensures in
    let items = c.args.items.now in
    let k = c.loop-item.item-index in
    let within = c.loop-item-test.true in
    record {
      leaves = leaves_join _ _ _ _ _ _ _ _ _ (total (take k items)) (total (get_or items k (Lines 0) ∷ [])) _ fed.Line (total_more items k (Lines 0) within) i.leaves e.leaves;
      said = λ limits bytes count at. items_said (made_after limits bytes) (feeds_of limits bytes) count items k (Lines 0) _ _ _ within (i.said limits bytes count at)
          (e.said limits bytes (count + total (take k items)) (i.leaves.going refl limits (Some bytes) count at) tt);
    }

pub returns-in_default : goal.returns-in_default
returns-in_default g c =
    let i = c.loop-item.invariant in
    let e = c.play_item.ensures in
    let items = c.args.items.now in
    let k = c.loop-item.item-index in
    let within = c.loop-item-test.true in
    record {
      leaves = leaves_within _ _ _ _ _ _ _ (total items) _ c.in_default.not-Line (total_within items k (Lines 0) within)
          (leaves_join _ _ _ _ _ _ _ _ _ (total (take k items)) (total (get_or items k (Lines 0) ∷ [])) _ _ refl i.leaves e.leaves);
      said = λ limits bytes count at tells.
          let here = i.leaves.going refl limits (Some bytes) count at in
          last_said (made_after limits bytes) limits bytes count items k (Lines 0) _ _ _ within
          (told_last limits bytes _ (count + total (take k items)) (total (get_or items k (Lines 0) ∷ [])) _ _ c.in_default.not-Line tells
          (e.leaves.found c.in_default.not-Line limits (Some bytes) (count + total (take k items)) here))
          (i.said limits bytes count at) (e.said limits bytes (count + total (take k items)) here tells);
    }

pub returns-clause-leaves : goal.returns-clause-leaves
returns-clause-leaves g c = rw (take_all c.loop-item.item-index c.args.items.now c.loop-item-test.false) at c.loop-item.invariant.leaves

pub returns-clause-said : goal.returns-clause-said
returns-clause-said g c = λ limits bytes count at _. rw (take_all c.loop-item.item-index c.args.items.now c.loop-item-test.false) at (c.loop-item.invariant.said limits bytes count at)
