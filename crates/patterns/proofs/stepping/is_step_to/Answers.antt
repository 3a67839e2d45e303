use Rattle.std.proofs.Common.{sym, ap, Some}
use Rattle.xpath_meaning.specs.Conversions.{first_of}
use Rattle.xpath_meaning.specs.Match.{match_step, fits_below}
use Rattle.xpath_meaning.specs.Outcome.{◌>>=◌}
use Rattle.key_sources.specs.Going.{reading_by}
use Rattle.key_sources.proofs.Saying.{says_after}
use Rattle.xpath_nodes.proofs.Holding.{there_on}
use Rattle.patterns.proofs.Standing.{says_at, says_grown, there_grows, parent_later, parent_there, parent_read, no_parent_read}
use Rattle.patterns.proofs.stepping.is_step_to.Goals as goal

pub is_step_from-requires-clause-there : goal.is_step_from-requires-clause-there
is_step_from-requires-clause-there g c = there_on _ _ c.args.n c.parent.ensures.moves c.requires.there

pub is_step_from-requires-clause-above : goal.is_step_from-requires-clause-above
is_step_from-requires-clause-above g c =
    let t = g.V.NodeView.sees c.parent.new.self in
    parent_there t.rules t.steps c.args.n c.in-Some.above c.parent.ensures.moves.seen.lawful (there_on _ _ c.args.n c.parent.ensures.moves c.requires.there).0 (sym c.in-Some.ensures.value)

pub returns-in-Some-clause-answers : goal.returns-in-Some-clause-answers
returns-in-Some-clause-answers g c =
    let t = g.V.NodeView.sees c.parent.new.self in
    let w = there_on _ _ c.args.n c.parent.ensures.moves c.requires.there in
    says_after c.parent.ensures.moves (says_grown c.is_step_from.ensures.went.moves
    (λ steps h l. ap (λ o. o >>= λ above. fits_below (reading_by (g.K.KeySource.made c.args.keys.now).lookups t.rules steps) (match_step c.args.step.now) c.args.n (first_of above))
    (parent_read (g.K.KeySource.made c.args.keys.now).lookups t.rules steps c.args.n c.in-Some.above (there_grows t.rules t.steps steps c.args.n h w)
    (parent_later t.steps steps c.args.n (Some c.in-Some.above) h w.0 (sym c.in-Some.ensures.value))))
    c.is_step_from.ensures.answers)

pub returns-in-None-clause-answers : goal.returns-in-None-clause-answers
returns-in-None-clause-answers g c =
    let t = g.V.NodeView.sees c.parent.new.self in
    let R = reading_by (g.K.KeySource.made c.args.keys.now).lookups t.rules t.steps in
    says_at (ap (λ o. o >>= λ above. fits_below R (match_step c.args.step.now) c.args.n (first_of above))
    (no_parent_read (g.K.KeySource.made c.args.keys.now).lookups t.rules t.steps c.args.n (there_on _ _ c.args.n c.parent.ensures.moves c.requires.there) (sym c.in-None.ensures.value)))
