use Rattle.std.proofs.Common.{◌≡◌, ap, ◌∙◌, arith}
use Rattle.link_cells.specs.Known.{Known}
use Rattle.link_cells.specs.Log.{value_at}
use Rattle.link_cells.proofs.Values.{value_at-push_other}
use Rattle.word_cases.proofs.words.set_in_a_circle.Goals as goal

pub loop-at-preserved : goal.loop-at-preserved
loop-at-preserved c = (
  ap (λ (k : Known). k.mark) c.set.ensures ∙ c.loop-at.invariant.0,
  (λ at from. ap (λ (k : Known). value_at at k.log) c.set.ensures
      ∙ (value_at-push_other at c.loop-at.at _ c.loop-at.writer.log (λ same. omega (arith, same, from)) ∙ c.loop-at.invariant.1 at (omega (arith, from)))),
)
