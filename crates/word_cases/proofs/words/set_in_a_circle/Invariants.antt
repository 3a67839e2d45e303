use Rattle.std.proofs.Common.{◌≡◌, ℕ, ◌≤◌}
use Rattle.link_cells.specs.Log.{value_at}
use Rattle.word_cases.proofs.words.set_in_a_circle.Given as goal

abbrev pub invariant-loop-at : goal.invariant-loop-at
invariant-loop-at l = (l.writer.mark ≡ l.initial.writer.mark) × ((at : ℕ) → l.at ≤ at → value_at at l.writer.log ≡ 0)
