use Rattle.std.proofs.Common.{◌≡◌, ◌++◌, ◌-◌, ℕ, List, Some, All, length, string_bytes, false}
use Rattle.doc_model.specs.declared.limits.Limits.{Limits}
use Rattle.line_feeder.specs.declared.fed.Fed.TheVariants as fed
use Rattle.line_feeder.specs.Feeds.{feeds_of}
use Rattle.sessions.specs.Standing.{lines_given}
use Rattle.turn_play.specs.Playing.{IsAt, Leaves}
use Rattle.turn_play.specs.Progress.{made_after, progress_text}
use Rattle.turn_play.specs.Turns.{runs, repeated, total}
use Rattle.turn_play.proofs.play.play_turns.Given as goal

abbrev pub invariant-passes : goal.invariant-passes
invariant-passes g l = record {
  pass : ℕ;
  leaves : Leaves l.initial.session l.session (g.S.Source.left l.initial.source) (g.S.Source.left l.source) (g.S.Source.faults l.initial.source) (g.S.Source.faults l.source)
      (total (repeated pass l.items)) fed.Line;
  once : l.feeding ≡ false → pass ≡ 0;
  said : (limits : Limits) (bytes : List ℕ) → IsAt l.initial.session limits (Some bytes) (g.S.Source.left l.initial.source) 0 →
      string_bytes l.said ≡ string_bytes l.initial.said ++ progress_text (runs (made_after limits bytes) (feeds_of limits bytes) 0 (repeated pass l.items));
}

-- each pass but the last feeds a line, which are fewer than 2^32
abbrev pub decreases-passes : goal.decreases-passes
decreases-passes g l = 4294967296 - lines_given l.session
