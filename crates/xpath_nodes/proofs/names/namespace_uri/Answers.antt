use Rattle.std.proofs.Common.{◌∙◌, ap, sym}
use Rattle.doc_model.specs.Answers.{Known}
use Rattle.doc_model.specs.declared.row.NameText.{NameText}
use Rattle.doc_model.specs.View.{name_of}
use Rattle.xpath_meaning.specs.Conversions.{text}
use Rattle.xpath_meaning.specs.Outcome.{◌>>=◌}
use Rattle.key_sources.proofs.Saying.{says_same, says_failed, says_then_given}
use Rattle.xpath_nodes.proofs.Turning.{then_then}
use Rattle.xpath_nodes.proofs.names.namespace_uri.Goals as goal

pub returns-in_err-name-clause-answers : goal.returns-in_err-name-clause-answers
returns-in_err-name-clause-answers g c = λ lookups. says_same (λ R. sym (then_then (R.row c.args.n) (λ row. Known (name_of row)) (λ (name : NameText). Known (text name.uri))))
    (says_failed (λ R (name : NameText). Known (text name.uri)) c.from_residual.result c.from_residual.ensures.1 (c.in_err-name.ensures.answers lookups))

pub returns-clause-answers : goal.returns-clause-answers
returns-clause-answers g c = λ lookups. says_same (λ R. sym (then_then (R.row c.args.n) (λ row. Known (name_of row)) (λ (name : NameText). Known (text name.uri))))
    (says_then_given (λ (name : NameText). Known (text name.uri)) _ c.in_ok-name.ensures.moves (c.in_ok-name.ensures.answers lookups) (ap Known (sym c.text_value.ensures)))
