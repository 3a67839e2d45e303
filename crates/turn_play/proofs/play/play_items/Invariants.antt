use Rattle.std.proofs.Common.{◌≡◌, ◌++◌, ℕ, List, Some, take, string_bytes}
use Rattle.doc_model.specs.declared.limits.Limits.{Limits}
use Rattle.line_feeder.specs.declared.fed.Fed.TheVariants as fed
use Rattle.line_feeder.specs.Feeds.{feeds_of}
use Rattle.turn_play.specs.Playing.{IsAt, Leaves}
use Rattle.turn_play.specs.Progress.{made_after, progress_text}
use Rattle.turn_play.specs.Turns.{runs, total}
use Rattle.turn_play.proofs.play.play_items.Given as goal

abbrev pub invariant-loop-item : goal.invariant-loop-item
invariant-loop-item g l = record {
  leaves : Leaves l.initial.session l.session (g.S.Source.left l.initial.source) (g.S.Source.left l.source) (g.S.Source.faults l.initial.source) (g.S.Source.faults l.source)
      (total (take l.item-index l.items)) fed.Line;
  said : (limits : Limits) (bytes : List ℕ) (count : ℕ) → IsAt l.initial.session limits (Some bytes) (g.S.Source.left l.initial.source) count →
      string_bytes l.said ≡ string_bytes l.initial.said ++ progress_text (runs (made_after limits bytes) (feeds_of limits bytes) count (take l.item-index l.items));
}
