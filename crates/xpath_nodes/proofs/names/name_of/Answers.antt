use Rattle.std.proofs.Common.{◌∙◌, ap, sym}
use Rattle.doc_model.specs.Answers.{Known}
use Rattle.doc_model.specs.View.{name_of}
use Rattle.doc_laws.proofs.Growth.{joined_grows}
use Rattle.xpath_meaning.specs.Outcome.{◌>>=◌}
use Rattle.key_sources.proofs.Saying.{says_exit, says_memory}
use Rattle.xpath_nodes.proofs.ByView.{row_is}
use Rattle.xpath_nodes.proofs.names.name_of.Goals as goal

pub returns-in_err-name-clause-answers : goal.returns-in_err-name-clause-answers
returns-in_err-name-clause-answers g c = λ lookups. says_exit c.from_residual.result c.from_residual.ensures.1 says_memory

pub returns-clause-answers : goal.returns-clause-answers
returns-clause-answers g c = λ lookups. record {
  answers = ap (λ o. o >>= λ row. Known (name_of row)) (row_is lookups _ _ c.args.n (joined_grows _ _ c.args.n c.name.ensures.moves.grows c.requires)) ∙ ap Known (sym c.in_ok-name.ensures.value);
}
