use Rattle.std.proofs.Common.{◌∙◌, sym, ap, []}
use Rattle.doc_model.specs.Answers.{Known}
use Rattle.xpath_meaning.specs.Outcome.{◌>>=◌}
use Rattle.key_sources.proofs.Whole.{whole_shut, whole_open}
use Rattle.key_sources.proofs.no_keys.none_once_whole.Goals as goal

pub returns-in-Some-clause-answers : goal.returns-in-Some-clause-answers
returns-in-Some-clause-answers g c = λ lookups. record {
  answers = ap (λ o. o >>= λ shut. Known []) (whole_shut lookups _ _ c.in-Some.ensures.value.0) ∙ ap Known (sym c.new.ensures);
}

pub returns-in-None-clause-answers : goal.returns-in-None-clause-answers
returns-in-None-clause-answers g c = λ lookups. record {
  answers = let a = c.in-None.ensures.value in (a.0, a.1, a.2, ap (λ o. o >>= λ shut. Known []) (whole_open lookups _ (a.0) a.3));
}
