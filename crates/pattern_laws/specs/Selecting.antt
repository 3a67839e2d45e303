-- What an expression selects, and what a pattern that is read as one does.
use Rattle.std.specs.Prelude.{◌≡◌, ◌↔◌, ℕ, List, [], ◌∷◌, Bool, true, false, if◌then◌else◌, Some, ⊤}
use Rattle.doc_model.specs.declared.row.Axis.TheVariants as axis
use Rattle.doc_model.specs.declared.row.Row.{Row}
use Rattle.doc_model.specs.declared.step.Step.{Step}
use Rattle.doc_model.specs.declared.strip_rule.StripRule.{StripRule}
use Rattle.doc_model.specs.Answers.{Known, Fault}
use Rattle.doc_model.specs.Axes.{is_on}
use Rattle.doc_model.specs.Document.{is_member}
use Rattle.doc_model.specs.Rows.{rows_of}
use Rattle.doc_model.specs.Subtree.{IsNodeIn}
use Rattle.fault_kinds.specs.declared.fault.FaultKind.{FaultKind}
use Rattle.xpath_grammar.specs.Grammar.{any_depth}
use Rattle.xpath_laws.specs.Sound.{Each, IsThere, Rows}
use Rattle.xpath_meaning.specs.declared.context.Context.{Context}
use Rattle.xpath_meaning.specs.Evaluation.{evaluation_of, meant_step}
use Rattle.xpath_meaning.specs.Keys.{alone}
use Rattle.xpath_meaning.specs.Match.{match_of, match_path}
use Rattle.xpath_meaning.specs.Meanings.{MeantStep}
use Rattle.xpath_meaning.specs.Reading.{Reading}
use Rattle.xpath_meaning.specs.Steps.{steps_nodes}
use Rattle.xpath_syntax.specs.declared.expression.AxisName.{AxisName}
use Rattle.xpath_syntax.specs.declared.expression.AxisName.TheVariants as name
use Rattle.xpath_syntax.specs.declared.expression.Expr.{Expr}
use Rattle.xpath_syntax.specs.declared.expression.StepExpr.{out-StepExpr}
use Rattle.xpath_syntax.specs.declared.pattern.PatternPath.{PatternPath}
use Rattle.xpath_syntax.specs.declared.pattern.PatternStart.{PatternStart}
use Rattle.xpath_syntax.specs.declared.pattern.PatternStart.TheVariants as start
use Rattle.xpath_syntax.specs.declared.pattern.PatternStep.{PatternStep}
use Rattle.xpath_values.specs.declared.value.Value.{Value}
use Rattle.xpath_values.specs.declared.value.Value.TheVariants.{Nodes}
use Rattle.pattern_laws.specs.Reading.{expression_of, with_alternatives}

-- the value is a set of nodes: exactly those that have the property
pub record SelectsExactly (R : Reading) (e : Expr) (values : List Value) (c : Context) (wanted : Rows) : Type 0 where
  pub nodes : List ℕ
  pub value : evaluation_of R e values c ≡ Known (Nodes nodes)
  pub members : (k : ℕ) → (is_member k nodes ≡ true) ↔ wanted k

-- steps behind `//` go on from all of these: the nodes and their descendants, as far as they are there and visible
pub record GoesOnFromAnyDepth (rules : List StripRule) (steps : List Step) (R : Reading) (nodes : List ℕ) (values : List Value) (c : Context) : Type 0 where
  pub within : List ℕ
  pub members : (k : ℕ) → (is_member k within ≡ true) ↔ (IsThere rules steps k × ((m : ℕ) × (is_member m nodes ≡ true) × IsNodeIn (rows_of steps) m k))
  pub same : (rest : List MeantStep) → steps_nodes (meant_step any_depth ∷ rest) nodes R values c ≡ steps_nodes rest within R values c

-- where a location path begins: at the root or at the context node
abbrev pub start_at : Bool → Context → ℕ
start_at absolute c = if absolute then 0 else c.node

-- node n is among the nodes of the value, where node m is the context
pub record Selects (R : Reading) (e : Expr) (m n : ℕ) : Type 0 where
  pub nodes : List ℕ
  pub value : evaluation_of R e [] (alone m) ≡ Known (Nodes nodes)
  pub member : is_member n nodes ≡ true

-- node m is node n or an ancestor of it
abbrev pub IsAround : List Row → ℕ → ℕ → Type 0
IsAround rows m n = is_on axis.AncestorOrSelf rows n m ≡ true

-- whether node n matches is known, and it does exactly where the pattern as an expression selects it, with the node or one of its ancestors as the context
pub record MatchesAsSelected (rows : List Row) (R : Reading) (path : PatternPath) (n : ℕ) : Type 0 where
  pub matches : Bool
  pub known : match_path R path n ≡ Known matches
  pub selected : (matches ≡ true) ↔ ((m : ℕ) × IsAround rows m n × Selects R (expression_of path) m n)

-- the same of a pattern of several alternatives
pub record PatternMatchesAsSelected (rows : List Row) (R : Reading) (first : PatternPath) (others : List PatternPath) (n : ℕ) : Type 0 where
  pub matches : Bool
  pub known : match_of R (record { alternatives = first ∷ others }) n ≡ Known matches
  pub selected : (matches ≡ true) ↔ ((m : ℕ) × IsAround rows m n × Selects R (with_alternatives (expression_of first) others) m n)

-- the axes that patterns have
abbrev pub is_pattern_axis : AxisName → Bool
is_pattern_axis name.Child = true
is_pattern_axis name.Attribute = true
is_pattern_axis _ = false

-- a step as patterns have it, without predicates
pub record IsPlainStep (step : PatternStep) : Type 0 where
  pub axis : is_pattern_axis (out-StepExpr step.part).axis ≡ true
  pub bare : (out-StepExpr step.part).predicates ≡ []

-- a path as patterns have it, without predicates: behind a `//` at the front there is a step
pub record IsPlain (path : PatternPath) : Type 0 where
  pub steps : Each IsPlainStep path.parts
  pub led : path.start ≡ start.Deep → path.parts ≡ [] → ⊥

-- a key at the start of a pattern has no fault
abbrev pub LooksUpWithoutFault : Reading → PatternStart → Type 0
LooksUpWithoutFault R (start.Key name value) = (key : ℕ) (fault : FaultKind) → name.slot ≡ Some key → R.by_key key value ≡ Fault fault → ⊥
LooksUpWithoutFault R _ = ⊤

-- a key at the start of a pattern is bound and has no fault
abbrev pub LooksUp : Reading → PatternStart → Type 0
LooksUp R (start.Key name value) = (key : ℕ) × (name.slot ≡ Some key) × ((fault : FaultKind) → R.by_key key value ≡ Fault fault → ⊥)
LooksUp R _ = ⊤

abbrev pub IsPlainAlternative : Reading → PatternPath → Type 0
IsPlainAlternative R path = IsPlain path × LooksUp R path.start
