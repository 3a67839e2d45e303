-- Nodes that are taken one by one.
use Rattle.std.specs.Prelude.{◌≡◌, ℕ, List, [], ◌∷◌, drop, true, Option, Some, None, Result, Ok, Err}
use Rattle.axis_walkers.specs.Streams.{StandsTo}
use Rattle.axis_walkers.specs.declared.child_stream.ChildStream.{ChildStream}
use Rattle.doc_model.specs.Lawful.{Grows, IsLawful, IsJoined}
use Rattle.doc_model.specs.Rows.{rows_of}
use Rattle.doc_model.specs.declared.node_test.Test.TheVariants as test
use Rattle.doc_model.specs.declared.step.Step.{Step}
use Rattle.doc_model.specs.declared.strip_rule.StripRule.{StripRule}
use Rattle.document_questions.specs.declared.items.Items.{Items}
use Rattle.document_questions.specs.declared.items.Nodes.{Nodes}
use Rattle.document_questions.specs.declared.items.Nodes.TheVariants.{OfPath, Children}
use Rattle.engine_questions.specs.Walks.{Follows as FollowsSo, Walk, flow, walk}
use Rattle.key_sources.specs.Going.{Lookups, reading_by}
use Rattle.xpath_core.specs.Left.{IsStreaming, behind_node}
use Rattle.xpath_laws.specs.Sound.{IsThere}
use Rattle.xpath_meaning.specs.Outcome.{Outcome}
use Rattle.xpath_meaning.specs.Reading.{Reading}
use Rattle.xpath_meaning.specs.Streams.{first_in}
use Rattle.xpath_meaning.specs.declared.context.Context.{Context}
use Rattle.xpath_meaning.specs.declared.stop.EvalStop.{EvalStop}
use Rattle.xpath_syntax.specs.declared.expression.Expr.{Expr}
use Rattle.xpath_syntax.specs.declared.expression.Expr.TheVariants as expr
use Rattle.xpath_syntax.specs.declared.expression.Path.{out-Path}
use Rattle.xpath_values.specs.declared.value.Value.{Value}

-- the select whose nodes are taken; none for children
abbrev pub select_in : Nodes → Option Expr
select_in (OfPath stream) = Some (expr.Path stream.path.now)
select_in (Children stream) = None

abbrev pub walk_of : Items → Walk
walk_of items = walk (select_in items.nodes) items.context items.taken

-- the node that is next on a walk, or that there is none, by what is read of the document
abbrev pub next_in : Walk → List Value → Reading → Outcome (Option ℕ)
next_in k values R = first_in (drop k.taken (flow k.select R values k.context).items) (flow k.select R values k.context).ending

-- the node that was given
abbrev pub given_in : Result (Option ℕ) EvalStop → List ℕ
given_in (Ok (Some n)) = n ∷ []
given_in (Ok None) = []
given_in (Err stop) = []

-- a stream of the children of node n stands on one of them, and at every lawful growth those behind it are those behind the first so many
pub record AreLeft (rules : List StripRule) (steps : List Step) (stream : ChildStream) (n taken : ℕ) : Type 0 where
  pub node : stream.n ≡ n
  pub joined : IsJoined steps n
  pub stands : StandsTo rules (rows_of steps) n stream.last
  pub left : (lookups : Lookups) (later : List Step) → Grows steps later → IsLawful later
      → drop taken ((reading_by lookups rules later).children test.Any n).items ≡ behind_node stream.last ((reading_by lookups rules later).children test.Any n).items

-- what nodes stand for, of which so many were given at a context
abbrev pub FollowNodes : Nodes → Context → ℕ → Lookups → List Value → List StripRule → List Step → Type 0
FollowNodes (OfPath stream) c taken lookups values rules steps =
    (stream.context ≡ c) × (stream.given ≡ taken) × ((out-Path stream.path.now).streams ≡ true) × IsStreaming lookups rules steps values stream
FollowNodes (Children stream) c taken lookups values rules steps = AreLeft rules steps stream c.node taken

-- the same at every lawful growth of the steps
abbrev pub Follows : Items → FollowsSo
Follows items lookups values rules steps = (later : List Step) → Grows steps later → IsLawful later → FollowNodes items.nodes items.context items.taken lookups values rules later

-- nodes of which none was given stand for all steps in which the context node is there
abbrev pub Begins : Items → Type 0
Begins items = (lookups : Lookups) (values : List Value) (rules : List StripRule) (steps : List Step) → IsThere rules steps items.context.node → Follows items lookups values rules steps
