use Rattle.std.proofs.Common.{ap, sym}
use Rattle.doc_model.specs.Answers.{Known}
use Rattle.key_sources.proofs.Saying.{went_none, says_exit, says_same, says_stops, says_then_given, says_memory}
use Rattle.patterns.specs.Found.{has_node}
use Rattle.patterns.proofs.Beside.{named_has}
use Rattle.patterns.proofs.starting.is_found_by_ids.Goals as goal

pub returns-in_err-text-clause-went : goal.returns-in_err-text-clause-went
returns-in_err-text-clause-went g c = went_none c.requires

pub returns-in_err-text-clause-answers : goal.returns-in_err-text-clause-answers
returns-in_err-text-clause-answers g c = says_exit c.from_residual.result c.from_residual.ensures.1 says_memory

pub returns-in_err-named-clause-answers : goal.returns-in_err-named-clause-answers
returns-in_err-named-clause-answers g c = says_exit c.from_residual-in_err-named.result c.from_residual-in_err-named.ensures.1
    (says_same (λ R. named_has R c.args.ids.now c.in_ok-text.text c.args.n c.in_ok-text.ensures) (says_stops (λ R named. Known (has_node c.args.n named)) c.in_err-named.ensures.answers))

pub returns-clause-answers : goal.returns-clause-answers
returns-clause-answers g c = says_same (λ R. named_has R c.args.ids.now c.in_ok-text.text c.args.n c.in_ok-text.ensures)
    (says_then_given (λ named. Known (has_node c.args.n named)) _ c.in_ok-named.ensures.went.moves c.in_ok-named.ensures.answers (ap (λ b. Known b) (sym c.has_node.ensures)))
