use Rattle.std.proofs.Common.{ap}
use Rattle.doc_model.specs.Answers.{Known}
use Rattle.key_sources.proofs.Saying.{gives_same}
use Rattle.xpath_meaning.specs.Conversions.{truth}
use Rattle.xpath_funcs.specs.Searches.{begins_with}
use Rattle.xpath_calls.proofs.texts.begins_with.Goals as goal

pub returns : goal.returns
returns c = gives_same (Known (truth c.starts_with.result)) (Known (truth (begins_with c.args.a.now c.args.b.now))) c.truth_value.result
    (ap (λ b. Known (truth b)) c.starts_with.ensures) c.truth_value.ensures
