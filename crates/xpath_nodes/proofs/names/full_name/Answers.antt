use Rattle.std.proofs.Common.{◌∙◌, ap, sym}
use Rattle.doc_model.specs.Answers.{Known}
use Rattle.doc_model.specs.declared.row.NameText.{NameText}
use Rattle.doc_model.specs.View.{name_of}
use Rattle.xpath_meaning.specs.Conversions.{text}
use Rattle.xpath_meaning.specs.Functions.{qualified}
use Rattle.xpath_meaning.specs.Outcome.{◌>>=◌}
use Rattle.key_sources.proofs.Saying.{says_same, says_failed, says_then_given, says_exit, says_memory}
use Rattle.xpath_nodes.proofs.Turning.{then_then}
use Rattle.xpath_nodes.proofs.names.full_name.Goals as goal

pub returns-in_err-name-clause-answers : goal.returns-in_err-name-clause-answers
returns-in_err-name-clause-answers g c =
    λ lookups. says_same (λ R. sym (then_then (R.row c.args.n) (λ row. Known (name_of row)) (λ (name : NameText). Known (text (qualified name.prefix name.local)))))
    (says_failed (λ R (name : NameText). Known (text (qualified name.prefix name.local))) c.from_residual.result c.from_residual.ensures.1 (c.in_err-name.ensures.answers lookups))

pub returns-in_err-written-clause-answers : goal.returns-in_err-written-clause-answers
returns-in_err-written-clause-answers g c = λ lookups. says_exit c.from_residual-in_err-written.result c.from_residual-in_err-written.ensures.1 says_memory

pub returns-clause-answers : goal.returns-clause-answers
returns-clause-answers g c = λ lookups. says_same (λ R. sym (then_then (R.row c.args.n) (λ row. Known (name_of row)) (λ (name : NameText). Known (text (qualified name.prefix name.local)))))
    (says_then_given (λ (name : NameText). Known (text (qualified name.prefix name.local))) _ c.in_ok-name.ensures.moves (c.in_ok-name.ensures.answers lookups)
    (ap (λ bytes. Known (text bytes)) (sym c.in_ok-written.ensures) ∙ ap Known (sym c.text_value.ensures)))
