use Rattle.std.proofs.Common.{◌∙◌, ap, sym, Some, None}
use Rattle.doc_model.specs.Answers.{Known}
use Rattle.xpath_funcs.specs.Languages.{lang_matches}
use Rattle.xpath_meaning.specs.Functions.{speaks}
use Rattle.key_sources.proofs.Saying.{says_failed, says_then_given}
use Rattle.xpath_nodes.proofs.lang.speaks.Goals as goal

pub returns-in_err-language-clause-answers : goal.returns-in_err-language-clause-answers
returns-in_err-language-clause-answers g c =
    λ lookups. says_failed (λ R language. Known (speaks language c.args.asked.now)) c.from_residual.result c.from_residual.ensures.1 (c.in_err-language.ensures.answers lookups)

pub returns-in-Some-clause-answers : goal.returns-in-Some-clause-answers
returns-in-Some-clause-answers g c = λ lookups. says_then_given (λ language. Known (speaks language c.args.asked.now)) _ c.in_ok-language.ensures.moves (c.in_ok-language.ensures.answers lookups)
    (ap (λ language. Known (speaks language c.args.asked.now)) c.in-Some.is ∙ ap Known (sym (c.lang_matches.ensures ∙ ap (λ language. lang_matches language c.args.asked.now) c.as_slice.ensures)))

pub returns-in-None-clause-answers : goal.returns-in-None-clause-answers
returns-in-None-clause-answers g c = λ lookups. says_then_given (λ language. Known (speaks language c.args.asked.now)) _ c.in_ok-language.ensures.moves (c.in_ok-language.ensures.answers lookups)
    (ap (λ language. Known (speaks language c.args.asked.now)) c.in-None.is)
