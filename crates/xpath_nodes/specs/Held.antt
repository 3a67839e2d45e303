-- Nodes that are there.
use Rattle.std.specs.Prelude.{ℕ, List, Option, Some, None, ⊤}
use Rattle.doc_model.specs.declared.step.Step.{Step}
use Rattle.doc_model.specs.Lawful.{IsJoined}
use Rattle.xpath_laws.specs.Sound.{Each}
use Rattle.xpath_values.specs.declared.value.Value.{Value}
use Rattle.xpath_values.specs.declared.value.Value.TheVariants.{Nodes, Atom, Fragment}

-- each of these rows is there
abbrev pub AllJoined : List Step → List ℕ → Type 0
AllJoined steps nodes = Each (IsJoined steps) nodes

-- the row is there, if one is given
abbrev pub IsJoinedIf : List Step → Option ℕ → Type 0
IsJoinedIf steps None = ⊤
IsJoinedIf steps (Some n) = IsJoined steps n

-- the nodes of a value are there
abbrev pub HasJoined : List Step → Value → Type 0
HasJoined steps (Nodes nodes) = AllJoined steps nodes
HasJoined steps (Atom atom) = ⊤
HasJoined steps (Fragment events) = ⊤
