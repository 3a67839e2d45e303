use Rattle.doc_model.specs.Values.{string_value_of}
use Rattle.string_values.specs.Appended.{appended_to}
use Rattle.xpath_nodes.proofs.ByView.{says_asked, says_unasked, value_is}
use Rattle.xpath_nodes.proofs.texts.node_text.Goals as goal

pub returns-in-Ok-clause-answers : goal.returns-in-Ok-clause-answers
returns-in-Ok-clause-answers g c = λ lookups. says_asked (λ rules steps. appended_to c.new-bytes.result.items (string_value_of rules steps c.args.n)) c.value_of.new.into.items _
    (λ rules steps. value_is lookups rules steps c.args.n _ c.new-bytes.ensures.items) c.from_vec.ensures c.in-Ok.ensures.answers

pub returns-in-Err-clause-answers : goal.returns-in-Err-clause-answers
returns-in-Err-clause-answers g c = λ lookups. says_unasked (λ rules steps. appended_to c.new-bytes.result.items (string_value_of rules steps c.args.n)) c.in-Err.ask c.stop_for.result
    (λ rules steps. value_is lookups rules steps c.args.n _ c.new-bytes.ensures.items) c.stop_for.ensures c.in-Err.ensures.answers
