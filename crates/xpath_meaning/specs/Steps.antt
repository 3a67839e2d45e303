-- Location paths (XPath 1.0, section 2).
use Rattle.std.specs.Prelude.{ℕ, List, [], ◌∷◌, length, if◌then◌else◌, Option, Some, None}
use Rattle.std.specs.List.{flat_map}
use Rattle.doc_model.specs.Answers.{Known}
use Rattle.xpath_meaning.specs.declared.context.Context.{Context}
use Rattle.xpath_meaning.specs.declared.context.Size.TheVariants as size
use Rattle.xpath_meaning.specs.DocumentOrder.{document_order}
use Rattle.xpath_meaning.specs.Meanings.{Meaning, Meant, MeantStep, MeantPath, holds_at, at_node}
use Rattle.xpath_meaning.specs.Outcome.{Outcome, ◌>>=◌, each_of, kept_from}
use Rattle.xpath_meaning.specs.Tests.{nodes_on}

-- the lists joined
abbrev pub joined : List (List ℕ) → List ℕ
joined lists = flat_map (λ nodes. nodes) lists

-- the nodes at which a predicate holds, by their positions in the list and its length
abbrev pub kept_by : Meant → List ℕ → Meaning (Outcome (List ℕ))
kept_by predicate nodes R values c = kept_from 1 (λ position n. holds_at predicate R values (at_node c (size.Known (length nodes)) position n)) nodes

-- what each predicate in turn leaves of a list
abbrev pub filtered : List Meant → List ℕ → Meaning (Outcome (List ℕ))
filtered [] nodes R values c = Known nodes
filtered (predicate ∷ predicates) nodes R values c = kept_by predicate nodes R values c >>= λ left. filtered predicates left R values c

-- the nodes of a step from one node, in the order of the axis
abbrev pub step_from : MeantStep → ℕ → Meaning (Outcome (List ℕ))
step_from step n R values c = nodes_on R step.axis step.test n >>= λ nodes. filtered step.predicates nodes R values c

-- the nodes of a step from all of these nodes, in document order without repeats
abbrev pub step_nodes : MeantStep → List ℕ → Meaning (Outcome (List ℕ))
step_nodes step nodes R values c = each_of (λ n. step_from step n R values c) nodes >>= λ lists. Known (document_order (joined lists))

-- the nodes of steps one behind the other
abbrev pub steps_nodes : List MeantStep → List ℕ → Meaning (Outcome (List ℕ))
steps_nodes [] nodes R values c = Known nodes
steps_nodes (step ∷ steps) nodes R values c = step_nodes step nodes R values c >>= λ found. steps_nodes steps found R values c

-- where a location path begins: at the root or at the context node
abbrev pub start_of : MeantPath → Context → ℕ
start_of path c = if path.absolute then 0 else c.node

-- the nodes of a location path
abbrev pub path_nodes : MeantPath → Meaning (Outcome (List ℕ))
path_nodes path R values c = steps_nodes path.parts (start_of path c ∷ []) R values c

-- the nodes of the path behind a primary, if there is one
abbrev pub tail_nodes : Option MeantPath → List ℕ → Meaning (Outcome (List ℕ))
tail_nodes None nodes R values c = Known nodes
tail_nodes (Some path) nodes R values c = steps_nodes path.parts nodes R values c
