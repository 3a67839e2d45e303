-- What a stream of a location path still gives: the items behind those that it has given.
use Rattle.std.specs.Prelude.{◌≡◌, ℕ, suc, ◌+◌, ◌<◌, ◌≤◌, nat_lt, Bool, if◌then◌else◌, List, [], ◌∷◌, ◌++◌, length, filter, take, drop, map}
use Rattle.std.specs.Prelude.{slice_get, slice_set, Option, Some, None, Result, Ok, Err, ⊤, ◌⊎◌}
use Rattle.axis_walkers.specs.Streams.{StandsTo}
use Rattle.doc_model.specs.declared.node_test.Test.{Test}
use Rattle.doc_model.specs.declared.step.Step.{Step}
use Rattle.doc_model.specs.declared.strip_rule.StripRule.{StripRule}
use Rattle.doc_model.specs.Lawful.{IsJoined, IsLawful, Grows}
use Rattle.doc_model.specs.Rows.{rows_of}
use Rattle.doc_model.specs.View.{Seen}
use Rattle.key_sources.specs.Going.{Lookups, reading_by, Says}
use Rattle.xpath_laws.specs.Sound.{Each, IsThere}
use Rattle.xpath_meaning.specs.declared.context.Context.{Context}
use Rattle.xpath_meaning.specs.declared.stop.EvalStop.{EvalStop}
use Rattle.xpath_meaning.specs.Evaluation.{meant_path, meant_step, path_items_of}
use Rattle.xpath_meaning.specs.Items.{through, steps_items}
use Rattle.xpath_meaning.specs.Items as items
use Rattle.xpath_meaning.specs.Meanings.{Meaning, MeantStep}
use Rattle.xpath_meaning.specs.Outcome.{Outcome}
use Rattle.xpath_meaning.specs.Reading.{Reading}
use Rattle.xpath_meaning.specs.Steps.{start_of}
use Rattle.xpath_meaning.specs.Streams.{Stream, all_of, then_stream, first_item}
use Rattle.xpath_meaning.specs.Tests.{test_of}
use Rattle.xpath_syntax.specs.declared.expression.Path.{Path, out-Path}
use Rattle.xpath_syntax.specs.declared.expression.StepExpr.{StepExpr, out-StepExpr}
use Rattle.xpath_values.specs.declared.value.Value.{Value}
use Rattle.xpath_core.specs.declared.levels.Child.{Child}
use Rattle.xpath_core.specs.declared.levels.Child.TheVariants as child
use Rattle.xpath_core.specs.declared.levels.Level.{Level}
use Rattle.xpath_core.specs.declared.levels.Place.{Place}
use Rattle.xpath_core.specs.declared.levels.Tested.{Tested}
use Rattle.xpath_core.specs.declared.levels.Turn.{Turn}
use Rattle.xpath_core.specs.declared.levels.Turn.TheVariants as turn
use Rattle.xpath_core.specs.declared.path_stream.PathStream.{PathStream}

-- a stream behind its first items
abbrev pub behind_first : ℕ → Stream → Stream
behind_first count s = record { items = drop count s.items; ending = s.ending }

-- the item of a location path behind so many, or that there is none
abbrev pub item_behind : Reading → Path → ℕ → List Value → Context → Outcome (Option ℕ)
item_behind R path given values c = first_item (behind_first given (path_items_of R path values c))

-- the nodes behind one of them, if one is given
abbrev pub behind_node : Option ℕ → List ℕ → List ℕ
behind_node None nodes = nodes
behind_node (Some k) nodes = filter (nat_lt k) nodes

-- what a level still gives: the children behind the last one that was tested go through the step, with the counts so far
abbrev pub level_left : MeantStep → (ℕ → Stream) → Level → Meaning Stream
level_left step inside level R values c =
    through step.predicates inside level.counts (behind_node level.children.last (R.children (test_of step.test) level.node).items) (R.children (test_of step.test) level.node).ending R values c

-- what lies behind a node that passed, if there is one
abbrev pub entered : (ℕ → Stream) → Option ℕ → Stream
entered inside None = all_of []
entered inside (Some n) = inside n

-- what is left of steps: first what lies behind the node that passed, then what each level still gives, the innermost first
abbrev pub left_of : List MeantStep → List Level → Option ℕ → Meaning Stream
left_of steps [] entering R values c = entered (λ n. steps_items steps n R values c) entering
left_of [] (level ∷ levels) entering R values c = all_of []
left_of (step ∷ steps) (level ∷ levels) entering R values c =
    then_stream (left_of steps levels entering R values c) (level_left step (λ n. steps_items steps n R values c) level R values c)

-- one more than the row, or 0: no more children were tested
abbrev pub most_of : Option ℕ → ℕ
most_of None = 0
most_of (Some k) = suc k

abbrev pub IsMost : Option ℕ → ℕ → Type 0
IsMost last count = count ≤ most_of last

-- a level stands on a row that is there, and on one of its visible children, and counts no more nodes than it has tested
pub record IsLevel (rules : List StripRule) (steps : List Step) (level : Level) : Type 0 where
  pub node : level.children.n ≡ level.node
  pub joined : IsJoined steps level.node
  pub stands : StandsTo rules (rows_of steps) level.node level.children.last
  pub counts : Each (IsMost level.children.last) level.counts

abbrev pub IsEntered : List StripRule → List Step → Option ℕ → Type 0
IsEntered rules steps None = ⊤
IsEntered rules steps (Some n) = IsThere rules steps n

abbrev pub test_in : StepExpr → Test
test_in part = test_of (out-StepExpr part).test

-- a place in steps stands on rows that are there and visible, with the tests of these steps and no more levels than there are
pub record IsPlace (rules : List StripRule) (steps : List Step) (parts : List StepExpr) (place : Place) : Type 0 where
  pub tests : place.tests ≡ map test_in parts
  pub few : length place.levels ≤ length parts
  pub levels : Each (IsLevel rules steps) place.levels
  pub entering : IsEntered rules steps place.entering

-- what is left at a place
abbrev pub left_at : List StepExpr → Place → Meaning Stream
left_at parts place R values c = left_of (map meant_step parts) place.levels place.entering R values c

-- no child was looked at
pub record IsBegun (parts : List StepExpr) (n : ℕ) (place : Place) : Type 0 where
  pub tests : place.tests ≡ map test_in parts
  pub levels : place.levels ≡ []
  pub entering : place.entering ≡ Some n

-- before the first child of a node
abbrev pub fresh_level : ℕ → Level
fresh_level n = record { node = n; children = record { n = n; last = None }; counts = [] }

-- the level behind a child that it came to
abbrev pub after_child : Level → Child → Level
after_child level child.None = level
after_child level (child.Other n children) = record { node = level.node; children = children; counts = level.counts }
after_child level (child.Tested n children tested) = record { node = level.node; children = children; counts = tested.counts }

-- a child that passed
abbrev pub entered_by : Child → Option ℕ
entered_by child.None = None
entered_by (child.Other n children) = None
entered_by (child.Tested n children tested) = if tested.passed then Some n else None

-- what is left of a level that came to a child: what lies behind the child if it passed, and then what the level still gives
abbrev pub child_left : MeantStep → (ℕ → Stream) → Level → Child → Meaning Stream
child_left step inside level child.None R values c = all_of []
child_left step inside level (child.Other n children) R values c = level_left step inside (after_child level (child.Other n children)) R values c
child_left step inside level (child.Tested n children tested) R values c =
    then_stream (entered inside (entered_by (child.Tested n children tested))) (level_left step inside (after_child level (child.Tested n children tested)) R values c)

-- a level that goes on stands on rows that are there, and behind the child that it stood on
pub record IsLater (rules : List StripRule) (steps : List Step) (old new : Level) (entering : Option ℕ) : Type 0 where
  pub level : IsLevel rules steps new
  pub entered : IsEntered rules steps entering
  pub behind : most_of old.children.last < most_of new.children.last

abbrev pub IsChild : List StripRule → List Step → Level → Child → Type 0
IsChild rules steps level child.None = ⊤
IsChild rules steps level (child.Other n children) = IsLater rules steps level (after_child level (child.Other n children)) None
IsChild rules steps level (child.Tested n children tested) = IsLater rules steps level (after_child level (child.Tested n children tested)) (entered_by (child.Tested n children tested))

-- what a level still gives is, on every lawful growth, what is left behind the child that it came to
pub record Follows (lookups : Lookups) (rules : List StripRule) (steps : List Step) (step : MeantStep) (level : Level) (values : List Value) (c : Context) (child : Child) : Type 0 where
  pub left : (inside : ℕ → Stream) (later : List Step) → Grows steps later → IsLawful later
      → level_left step inside level (reading_by lookups rules later) values c ≡ child_left step inside level child (reading_by lookups rules later) values c
  pub stands : IsChild rules steps level child

-- why a level came to no child: so says the first item that it gives, whatever lies behind its children
abbrev pub StopsLevel : {M : Type 0} → Lookups → MeantStep → Level → List Value → Context → Seen M → Seen M → Result Child EvalStop → Type 0
StopsLevel lookups step level values c before later (Ok child) = ⊤
StopsLevel lookups step level values c before later (Err stop) =
    (inside : Reading → ℕ → Stream) → Says {A = Option ℕ} lookups (λ R. first_item (level_left step (inside R) level R values c)) before later (Err stop)

-- the levels once the innermost, which is the one at this place, came to a child
abbrev pub levels_after : ℕ → Level → Child → List Level → List Level
levels_after at level child.None levels = take at levels
levels_after at level (child.Other n children) levels = slice_set levels at (after_child level (child.Other n children))
levels_after at level (child.Tested n children tested) levels = slice_set levels at (after_child level (child.Tested n children tested))

pub record IsWentOn (at : ℕ) (child : Child) (old new : Place) : Type 0 where
  pub tests : new.tests ≡ old.tests
  pub levels : (level : Level) → slice_get old.levels at ≡ Some level → new.levels ≡ levels_after at level child old.levels
  pub entering : old.entering ≡ None → new.entering ≡ entered_by child

-- a node that passed was entered: its children are the innermost level
pub record IsEnteredAt (steps n : ℕ) (old new : Place) : Type 0 where
  pub passed : old.entering ≡ Some n
  pub more : length old.levels < steps
  pub placed : new ≡ record { tests = old.tests; levels = old.levels ++ fresh_level n ∷ []; entering = None }

-- nothing was to be entered, or one node that passed was
abbrev pub IsReached : ℕ → Place → Place → Type 0
IsReached steps old new = ((old.entering ≡ None) × (new ≡ old)) ⊎ ((n : ℕ) × IsEnteredAt steps n old new)

-- what comes next at a place in so many steps, and where it stands then
abbrev pub Comes : ℕ → Turn → Place → Place → Type 0
Comes steps (turn.Item n) old new = (old.entering ≡ Some n) × (length old.levels ≡ steps) × (new ≡ record { tests = old.tests; levels = old.levels; entering = None })
Comes steps turn.End old new = (old.entering ≡ None) × (old.levels ≡ []) × (new ≡ old)
Comes steps (turn.Child at) old new = (suc at ≡ length new.levels) × IsReached steps old new

-- a node that came to the first predicates, and the counts of the others
abbrev pub finished_with : List ℕ → List ℕ → Bool → Tested
finished_with after counts passed = record { counts = after ++ drop (length after) counts; passed = passed }

abbrev pub tested_in : Result Tested EvalStop → Result items.Tested EvalStop
tested_in (Ok tested) = Ok (record { counts = tested.counts; passed = tested.passed })
tested_in (Err stop) = Err stop

-- the item that a call gave
abbrev pub taken_in : Result (Option ℕ) EvalStop → List ℕ
taken_in (Ok (Some n)) = n ∷ []
taken_in (Ok None) = []
taken_in (Err stop) = []

-- what was left is, on every lawful growth, the item that was taken, and then what is left now
pub record IsLeft (lookups : Lookups) (rules : List StripRule) (steps : List Step) (parts : List StepExpr) (values : List Value) (c : Context) (old new : Place)
    (result : Result (Option ℕ) EvalStop) : Type 0 where
  pub left : (later : List Step) → Grows steps later → IsLawful later
      → left_at parts old (reading_by lookups rules later) values c ≡ then_stream (all_of (taken_in result)) (left_at parts new (reading_by lookups rules later) values c)

-- what callers see of a stream: its path, its context, and how many items it has given
abbrev pub path_of : PathStream → Path
path_of stream = stream.path.now

abbrev pub context_of : PathStream → Context
context_of stream = stream.context

abbrev pub given_of : PathStream → ℕ
given_of stream = stream.given

-- a stream of the path that has given nothing
pub record IsStarted (started : Path) (c : Context) (stream : PathStream) : Type 0 where
  pub path : stream.path.now ≡ started
  pub context : stream.context ≡ c
  pub given : stream.given ≡ 0
  pub place : IsBegun (out-Path started).parts (start_of (meant_path started) c) stream.place

-- a stream stands for what was seen: on every lawful growth, what is left at its place is the items behind those that it has given
pub record IsStreaming (lookups : Lookups) (rules : List StripRule) (steps : List Step) (values : List Value) (stream : PathStream) : Type 0 where
  pub place : IsPlace rules steps (out-Path stream.path.now).parts stream.place
  pub left : (later : List Step) → Grows steps later → IsLawful later
      → behind_first stream.given (path_items_of (reading_by lookups rules later) stream.path.now values stream.context)
      ≡ left_at (out-Path stream.path.now).parts stream.place (reading_by lookups rules later) values stream.context

-- a call took an item, or none, of the same path in the same context
pub record Took (old new : PathStream) (result : Result (Option ℕ) EvalStop) : Type 0 where
  pub path : new.path.now ≡ old.path.now
  pub context : new.context ≡ old.context
  pub given : new.given ≡ old.given + length (taken_in result)
