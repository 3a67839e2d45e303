-- Whether a node matches a pattern (XSLT 1.0, section 5.2).
use Rattle.std.specs.Prelude.{ℕ, suc, List, [], ◌∷◌, ◌++◌, Bool, true, false, not, ◌&&◌, ◌||◌, ◌==◌, if◌then◌else◌, length, reverse, map, Option, Some, None, codes}
use Rattle.std.specs.List.{list_any}
use Rattle.doc_model.specs.declared.node_test.Test.{Test}
use Rattle.doc_model.specs.declared.node_test.Test.TheVariants as test
use Rattle.doc_model.specs.declared.row.Axis.TheVariants as axis
use Rattle.doc_model.specs.declared.row.Kind.TheVariants as kind
use Rattle.doc_model.specs.declared.row.Row.{Row}
use Rattle.doc_model.specs.Answers.{Known}
use Rattle.doc_model.specs.Document.{is_attribute, is_member}
use Rattle.doc_model.specs.NodeTests.{meets}
use Rattle.xpath_chains.specs.Mentions.{mentions}
use Rattle.xpath_funcs.specs.Spaces.{words}
use Rattle.xpath_syntax.specs.declared.expression.AxisName.{AxisName}
use Rattle.xpath_syntax.specs.declared.expression.AxisName.TheVariants as name
use Rattle.xpath_syntax.specs.declared.expression.Expr.{Expr}
use Rattle.xpath_syntax.specs.declared.expression.StepExpr.{out-StepExpr}
use Rattle.xpath_syntax.specs.declared.pattern.Pattern.{Pattern}
use Rattle.xpath_syntax.specs.declared.pattern.PatternPath.{PatternPath}
use Rattle.xpath_syntax.specs.declared.pattern.PatternStart.{PatternStart}
use Rattle.xpath_syntax.specs.declared.pattern.PatternStart.TheVariants as start
use Rattle.xpath_syntax.specs.declared.pattern.PatternStep.{PatternStep}
use Rattle.xpath_meaning.specs.declared.context.Context.{Context}
use Rattle.xpath_meaning.specs.declared.context.Size.{Size}
use Rattle.xpath_meaning.specs.declared.context.Size.TheVariants as size
use Rattle.xpath_meaning.specs.Conversions.{first_of}
use Rattle.xpath_meaning.specs.Evaluation.{meant_step}
use Rattle.xpath_meaning.specs.Meanings.{Meant, holds_at}
use Rattle.xpath_meaning.specs.Outcome.{Outcome, ◌>>=◌, some_holds, each_of, kept_from}
use Rattle.xpath_meaning.specs.Reading.{Reading}
use Rattle.xpath_meaning.specs.Steps.{joined}
use Rattle.xpath_meaning.specs.Tests.{test_of}

-- a step of a pattern: whether `//` stands before it, whether it is an attribute, its test, what its predicates mean, and whether one of them mentions last()
pub record MatchStep : Type 0 where
  pub deep : Bool
  pub attribute : Bool
  pub test : Test
  pub predicates : List Meant
  pub whole : Bool

abbrev pub is_attribute_axis : AxisName → Bool
is_attribute_axis name.Attribute = true
is_attribute_axis _ = false

abbrev pub mentions_last : List Expr → Bool
mentions_last predicates = list_any (mentions (codes "last")) predicates

abbrev pub match_step : PatternStep → MatchStep
match_step step = record {
  deep = step.deep;
  attribute = is_attribute_axis (out-StepExpr step.part).axis;
  test = test_of (out-StepExpr step.part).test;
  predicates = (meant_step step.part).predicates;
  whole = mentions_last (out-StepExpr step.part).predicates;
}

-- the row is of the kind that the axis leads to, and meets the test
abbrev pub fits : Bool → Test → Row → Bool
fits true test row = is_attribute row.kind && meets kind.Attribute test row
fits false test row = not (is_attribute row.kind) && meets kind.Element test row

-- the nodes that the predicates see beside node n below its parent, in document order: of attributes all, of children those up to n, and all where last() is mentioned
abbrev pub beside : Bool → Bool → Test → Reading → ℕ → ℕ → Outcome (List ℕ)
beside true whole test R above n = R.axis axis.Attribute test above
beside false true test R above n = R.axis axis.Child test above
beside false false test R above n = R.axis axis.PrecedingSibling test n >>= λ before. Known (reverse before ++ n ∷ [])

-- how many nodes last() tells; nothing asks for it where not all are there
abbrev pub size_of : Bool → List ℕ → Size
size_of true nodes = size.Known (length nodes)
size_of false nodes = size.Unasked

abbrev pub context_at : Size → ℕ → ℕ → Context
context_at size position n = record { node = n; position = position; size = size; current = n }

-- whether a predicate holds at a node of a list, by its position there
abbrev pub says : Reading → Size → Meant → ℕ → ℕ → Outcome Bool
says R size predicate position n = holds_at predicate R [] (context_at size position n)

-- the position of a node in a list, the first of which has this one
abbrev pub position_in : ℕ → ℕ → List ℕ → ℕ
position_in position n [] = position
position_in position n (k ∷ ks) = if n == k then position else position_in (suc position) n ks

-- the last predicate is evaluated at the node alone; each of those before it filters the list, and the node must stay in it
abbrev pub passes : Reading → Bool → ℕ → List Meant → List ℕ → Outcome Bool
passes R known n [] nodes = Known true
passes R known n (predicate ∷ []) nodes = says R (size_of known nodes) predicate (position_in 1 n nodes) n
passes R known n (predicate ∷ next ∷ later) nodes =
    kept_from 1 (says R (size_of known nodes) predicate) nodes >>= λ left.
    if is_member n left then passes R known n (next ∷ later) left else Known false

-- without predicates no list is looked at
abbrev pub passes_all : Reading → MatchStep → ℕ → ℕ → List Meant → Outcome Bool
passes_all R step above n [] = Known true
passes_all R step above n (predicate ∷ predicates) =
    beside step.attribute step.whole step.test R above n >>= λ nodes. passes R (step.attribute || step.whole) n (predicate ∷ predicates) nodes

abbrev pub fits_below : Reading → MatchStep → ℕ → Option ℕ → Outcome Bool
fits_below R step n None = Known false
fits_below R step n (Some above) = R.row n >>= λ row. if fits step.attribute step.test row then passes_all R step above n step.predicates else Known false

-- whether a step leads to node n from its parent
abbrev pub is_step_to : Reading → MatchStep → ℕ → Outcome Bool
is_step_to R step n = R.axis axis.Parent test.Any n >>= λ above. fits_below R step n (first_of above)

-- where a step may come from: `/` is the parent, and `//` the ancestors, nearest first
abbrev pub sources : Reading → Bool → ℕ → Outcome (List ℕ)
sources R true n = R.axis axis.Ancestor test.Any n
sources R false n = R.axis axis.Parent test.Any n

-- whether the node is an element that one of the IDs names which stand in a string, split at whitespace; known once the root is shut
abbrev pub is_found_by_ids : Reading → List ℕ → ℕ → Outcome Bool
is_found_by_ids R ids n = R.whole >>= λ shut. each_of (λ id. R.by_id id) (words ids) >>= λ lists. Known (is_member n (joined lists))

abbrev pub is_found_by_key : Reading → Option ℕ → List ℕ → ℕ → Outcome Bool
is_found_by_key R None value n = Known false
is_found_by_key R (Some key) value n = R.by_key key value >>= λ nodes. Known (is_member n nodes)

-- whether a pattern may start at a node
abbrev pub starts : Reading → PatternStart → ℕ → Outcome Bool
starts R start.Relative n = Known true
starts R start.Root n = Known (n == 0)
starts R start.Deep n = Known true
starts R (start.Id ids) n = is_found_by_ids R ids n
starts R (start.Key name value) n = is_found_by_key R name.slot value n

-- whether steps, the last one first, lead from the start of a pattern to node n
abbrev pub leads : Reading → PatternStart → List MatchStep → ℕ → Outcome Bool
leads R start [] n = starts R start n
leads R start (step ∷ steps) n =
    is_step_to R step n >>= λ here. if here then (sources R step.deep n >>= λ above. some_holds (leads R start steps) above) else Known false

abbrev pub match_path : Reading → PatternPath → ℕ → Outcome Bool
match_path R path n = leads R path.start (reverse (map match_step path.parts)) n

-- whether a node matches: the alternatives are tried from the left
abbrev pub match_of : Reading → Pattern → ℕ → Outcome Bool
match_of R pattern n = some_holds (λ path. match_path R path n) pattern.alternatives
