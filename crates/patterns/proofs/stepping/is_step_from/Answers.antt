use Rattle.std.proofs.Common.{sym, ap, ◌∙◌, false, cond}
use Rattle.doc_model.specs.Answers.{Known}
use Rattle.xpath_meaning.specs.Match.{match_step, fits, passes_all}
use Rattle.xpath_meaning.specs.Outcome.{◌>>=◌}
use Rattle.key_sources.specs.Going.{reading_by}
use Rattle.key_sources.proofs.Saying.{says_after}
use Rattle.doc_laws.proofs.Growth.{joined_grows}
use Rattle.xpath_nodes.proofs.ByView.{row_is}
use Rattle.xpath_nodes.proofs.Holding.{there_on}
use Rattle.patterns.proofs.Standing.{says_at, says_grown, row_later}
use Rattle.patterns.proofs.stepping.is_step_from.Goals as goal

pub returns-then-not-fits-clause-answers : goal.returns-then-not-fits-clause-answers
returns-then-not-fits-clause-answers g c =
    let t = g.V.NodeView.sees c.fits.new.view in
    let R = reading_by (g.K.KeySource.made c.args.keys.now).lookups t.rules t.steps in
    let step = match_step c.args.step.now in
    says_at (ap (λ o. o >>= λ row. cond (fits step.attribute step.test row) (passes_all R step c.args.above c.args.n step.predicates) (Known false))
    (row_is (g.K.KeySource.made c.args.keys.now).lookups t.rules t.steps c.args.n (there_on _ _ c.args.n c.fits.ensures.moves c.requires.there).0)
    ∙ ap (λ b. cond b (passes_all R step c.args.above c.args.n step.predicates) (Known false)) (sym c.if-not-fits.ensures.value))

pub passes_all-requires-clause-there : goal.passes_all-requires-clause-there
passes_all-requires-clause-there g c = there_on _ _ c.args.n c.fits.ensures.moves c.requires.there

pub passes_all-requires-clause-above : goal.passes_all-requires-clause-above
passes_all-requires-clause-above g c = there_on _ _ c.args.above c.fits.ensures.moves c.requires.above

pub returns-clause-answers : goal.returns-clause-answers
returns-clause-answers g c =
    let lookups = (g.K.KeySource.made c.args.keys.now).lookups in
    let t = g.V.NodeView.sees c.fits.new.view in
    let step = match_step c.args.step.now in
    let j = (there_on _ _ c.args.n c.fits.ensures.moves c.requires.there).0 in
    says_after c.fits.ensures.moves (says_grown c.passes_all.ensures.went.moves
    (λ steps h l. ap (λ o. o >>= λ row. cond (fits step.attribute step.test row) (passes_all (reading_by lookups t.rules steps) step c.args.above c.args.n step.predicates) (Known false))
    (row_is lookups t.rules steps c.args.n (joined_grows t.steps steps c.args.n h j))
    ∙ ap (λ b. cond b (passes_all (reading_by lookups t.rules steps) step c.args.above c.args.n step.predicates) (Known false))
    (ap (fits step.attribute step.test) (row_later t.steps steps c.args.n h j) ∙ sym c.if-not-fits.ensures.value))
    c.passes_all.ensures.answers)
