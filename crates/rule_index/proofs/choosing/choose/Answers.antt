use Rattle.std.proofs.Common.{List, ℕ, ◌∙◌, ap, sym}
use Rattle.key_sources.proofs.Saying.{stands_on, went_moves, went_on, says_after, says_exit, says_same, says_memory}
use Rattle.rule_choice.specs.Choice.{first_that}
use Rattle.sheet_ast.specs.declared.sheet.Rule.{Rule}
use Rattle.xpath_nodes.proofs.Holding.{there_on}
use Rattle.rule_index.specs.Applying.{applies}
use Rattle.rule_index.proofs.Chosen.{choice_is}
use Rattle.rule_index.proofs.choosing.choose.Goals as goal

pub local_of-requires : goal.local_of-requires
local_of-requires g c = c.requires.there.0

pub returns-in_err-local-clause-went : goal.returns-in_err-local-clause-went
returns-in_err-local-clause-went g c = went_moves (g.met.K.KeySource.goes_on c.args.keys.now) c.in_err-local.ensures.moves c.requires.stands

pub returns-in_err-local-clause-answers : goal.returns-in_err-local-clause-answers
returns-in_err-local-clause-answers g c = says_exit c.from_residual.result c.from_residual.ensures.1 says_memory

pub first_that_applies-requires-clause-stands : goal.first_that_applies-requires-clause-stands
first_that_applies-requires-clause-stands g c = stands_on (g.met.K.KeySource.goes_on c.args.keys.now) c.in_ok-local.ensures.moves c.requires.stands

pub first_that_applies-requires-clause-there : goal.first_that_applies-requires-clause-there
first_that_applies-requires-clause-there g c = there_on _ _ c.args.n c.in_ok-local.ensures.moves c.requires.there

pub first_that_applies-requires-clause-named : goal.first_that_applies-requires-clause-named
first_that_applies-requires-clause-named g c = c.as_slice-text.ensures ∙ c.in_ok-local.ensures.value

pub returns-clause-went : goal.returns-clause-went
returns-clause-went g c = went_on (went_moves (g.met.K.KeySource.goes_on c.args.keys.now) c.in_ok-local.ensures.moves c.requires.stands) c.first_that_applies.ensures.went

pub returns-clause-answers : goal.returns-clause-answers
returns-clause-answers g c = says_after c.in_ok-local.ensures.moves
    (says_same
    (λ R. choice_is R c.args.sheet.now.rules c.args.mode c.args.n c.args.index.now c.requires.index
    ∙ ap (λ (rules : List Rule). first_that (applies R rules c.args.mode c.args.n) c.args.index.now.order) (sym c.as_slice-rules.ensures)
    ∙ ap (λ (places : List ℕ). first_that (applies R c.as_slice-rules.result.now c.args.mode c.args.n) places) (sym c.as_slice-places.ensures))
    c.first_that_applies.ensures.answers)
