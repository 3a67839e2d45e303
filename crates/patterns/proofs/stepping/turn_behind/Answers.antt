use Rattle.std.proofs.Common.{sym, ap, ◌∙◌, Some}
use Rattle.doc_model.specs.Answers.{Known}
use Rattle.xpath_meaning.specs.Conversions.{first_of}
use Rattle.xpath_meaning.specs.Outcome.{◌>>=◌}
use Rattle.key_sources.specs.Going.{reading_by}
use Rattle.xpath_nodes.proofs.Holding.{there_on}
use Rattle.patterns.specs.Trials.{up_from, turn_behind}
use Rattle.patterns.proofs.Standing.{says_at, parent_there, parent_read, no_parent_read}
use Rattle.patterns.proofs.stepping.turn_behind.Goals as goal

pub returns-then-deep-clause-there : goal.returns-then-deep-clause-there
returns-then-deep-clause-there g c = there_on _ _ c.args.n c.told.ensures c.requires

pub returns-in-Some-clause-answers : goal.returns-in-Some-clause-answers
returns-in-Some-clause-answers g c = λ lookups.
    let t = g.V.NodeView.sees c.parent.new.self in
    says_at (ap (λ deep. turn_behind (reading_by lookups t.rules t.steps) deep c.args.before c.args.n) c.if-deep.false
    ∙ ap (λ o. o >>= λ above. Known (Some (up_from c.args.before (first_of above))))
    (parent_read lookups t.rules t.steps c.args.n c.in-Some.above (there_on _ _ c.args.n c.parent.ensures.moves c.requires) (sym c.in-Some.ensures.value)))

pub returns-in-Some-clause-there : goal.returns-in-Some-clause-there
returns-in-Some-clause-there g c =
    let t = g.V.NodeView.sees c.parent.new.self in
    parent_there t.rules t.steps c.args.n c.in-Some.above c.parent.ensures.moves.seen.lawful (there_on _ _ c.args.n c.parent.ensures.moves c.requires).0 (sym c.in-Some.ensures.value)

pub returns-in-None-clause-answers : goal.returns-in-None-clause-answers
returns-in-None-clause-answers g c = λ lookups.
    let t = g.V.NodeView.sees c.parent.new.self in
    says_at (ap (λ deep. turn_behind (reading_by lookups t.rules t.steps) deep c.args.before c.args.n) c.if-deep.false
    ∙ ap (λ o. o >>= λ above. Known (Some (up_from c.args.before (first_of above))))
    (no_parent_read lookups t.rules t.steps c.args.n (there_on _ _ c.args.n c.parent.ensures.moves c.requires) (sym c.in-None.ensures.value)))
