use Rattle.std.proofs.Common.{ap}
use Rattle.doc_model.specs.declared.row.NameText.{NameText}
use Rattle.rule_index.proofs.naming.local_of.Goals as goal

pub returns-clause-value : goal.returns-clause-value
returns-clause-value g c = ap (λ (text : NameText). text.local) c.in_ok-name.ensures.value
