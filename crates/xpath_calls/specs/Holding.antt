-- Arguments whose nodes are there.
use Rattle.std.specs.Prelude.{List, Option, Some, None, ⊤}
use Rattle.doc_model.specs.declared.step.Step.{Step}
use Rattle.xpath_nodes.specs.Held.{HasJoined}
use Rattle.xpath_values.specs.declared.value.Value.{Value}

-- the nodes of the value are there, if one is given
abbrev pub HeldIf : List Step → Option Value → Type 0
HeldIf steps None = ⊤
HeldIf steps (Some v) = HasJoined steps v
