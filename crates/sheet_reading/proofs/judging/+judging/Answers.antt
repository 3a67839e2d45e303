use Rattle.std.proofs.Common.{subst, sym, Err}
use Rattle.sheet_reading.specs.Elements.{judged}
use Rattle.sheet_reading.specs.Judgement.{Answers}
use Rattle.sheet_reading.proofs.Levels.{no_level, one_level}
use Rattle.sheet_reading.proofs.judging.+judging.Goals as goal

pub judged-returns-then-levels-eq0-clause-answers : goal.judged-returns-then-levels-eq0-clause-answers
judged-returns-then-levels-eq0-clause-answers t c =
    let around = c.args.scopes.now.scopes in
    subst (λ s. Answers (judged c.args.levels around c.args.place c.args.element.now) (Err s)) (sym c.refused.ensures)
    (no_level c.args.levels around c.args.place c.args.element.now c.if-levels-eq0.true)

pub judged-returns-else-levels-eq0-clause-answers : goal.judged-returns-else-levels-eq0-clause-answers
judged-returns-else-levels-eq0-clause-answers t c =
    one_level c.args.levels c.args.scopes.now.scopes c.args.place c.args.element.now c.layer.result c.if-levels-eq0.false c.layer.ensures.answers
