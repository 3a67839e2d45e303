-- Nodes that are taken one by one.
use Rattle.std.specs.Prelude.{ℕ, suc, List, drop, Bool, Option, Some, None, Result, Ok, Err}
use Rattle.std.specs.Borrow.{Bor}
use Rattle.std.specs.Option.{is_some}
use Rattle.doc_model.specs.Lawful.{Grows, IsLawful}
use Rattle.doc_model.specs.declared.node_test.Test.TheVariants as test
use Rattle.doc_model.specs.declared.step.Step.{Step}
use Rattle.doc_model.specs.declared.strip_rule.StripRule.{StripRule}
use Rattle.engine_meaning.specs.Places.{World}
use Rattle.key_sources.specs.Going.{Lookups}
use Rattle.xpath_meaning.specs.Evaluation.{items_of, meant}
use Rattle.xpath_meaning.specs.Outcome.{Outcome}
use Rattle.xpath_meaning.specs.Reading.{Reading}
use Rattle.xpath_meaning.specs.Streams.{Stream, first_in}
use Rattle.xpath_meaning.specs.declared.context.Context.{Context}
use Rattle.xpath_meaning.specs.declared.stop.EvalStop.{EvalStop}
use Rattle.xpath_syntax.specs.declared.expression.Expr.{Expr}
use Rattle.xpath_values.specs.declared.value.Value.{Value}

-- the nodes of an expression may be taken one by one
abbrev pub is_streamed : Expr → Bool
is_streamed e = is_some (meant e).items

-- the items of a select at a context; without one, the children of the context node
abbrev pub flow : Option Expr → Reading → List Value → Context → Stream
flow (Some select) R values c = items_of R select values c
flow None R values c = R.children test.Any c.node

abbrev pub select_of : Option (Bor Expr) → Option Expr
select_of None = None
select_of (Some select) = Some select.now

-- items of which so many were taken
pub record Walk : Type 0 where
  pub select : Option Expr
  pub context : Context
  pub taken : ℕ

abbrev pub walk : Option Expr → Context → ℕ → Walk
walk select context taken = record { select = select; context = context; taken = taken }

abbrev pub items_left : Walk → List Value → World → List ℕ
items_left k values w = drop k.taken (flow k.select w.reading values k.context).items

-- the item that is next, or that there is none
abbrev pub next_of : Walk → List Value → World → Outcome (Option ℕ)
next_of k values w = first_in (items_left k values w) (flow k.select w.reading values k.context).ending

-- the walk behind what was answered
abbrev pub behind : Walk → Option ℕ → Walk
behind k None = k
behind k (Some n) = walk k.select k.context (suc k.taken)

abbrev pub walked : Walk → Result (Option ℕ) EvalStop → Walk
walked k (Ok item) = behind k item
walked k (Err stop) = k

-- what a stream stands for: by what nodes can be found, the values of the variables, the strip rules and the steps
abbrev pub Follows : Type 1
Follows = Lookups → List Value → List StripRule → List Step → Type 0

-- what a stream stands for it stands for on every lawful growth of the steps
abbrev pub GoesOnSo : Follows → Type 0
GoesOnSo follows = (lookups : Lookups) (values : List Value) (rules : List StripRule) (before later : List Step) → follows lookups values rules before
    → Grows before later → IsLawful later → follows lookups values rules later
