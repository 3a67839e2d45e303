-- The visible children of a row as a stream of items with an end.
use Rattle.std.specs.Prelude.{◌≡◌, ℕ, suc, ◌<◌, true, false, List, [], ◌∷◌, ◌++◌, length, Option, Some, None, ⊤}
use Rattle.doc_model.specs.declared.look.Look.{Look}
use Rattle.doc_model.specs.declared.look.Look.TheVariants.{Node, Nothing, NotYet}
use Rattle.doc_model.specs.declared.row.Row.{Row}
use Rattle.doc_model.specs.declared.step.Step.{Step}
use Rattle.doc_model.specs.declared.strip_rule.StripRule.{StripRule}
use Rattle.doc_model.specs.Document.{is_open}
use Rattle.doc_model.specs.Lawful.{IsJoined, AtStep}
use Rattle.doc_model.specs.Rows.{rows_of}
use Rattle.doc_model.specs.Shown.{is_shown, shown_below, shown_of}
use Rattle.doc_model.specs.View.{Seen}
use Rattle.axis_walkers.specs.declared.child_stream.ChildStream.{ChildStream}

-- the visible children of row n up to this one
abbrev pub given_to : List StripRule → List Row → ℕ → Option ℕ → List ℕ
given_to rules rows n None = []
given_to rules rows n (Some k) = shown_below rules rows n (suc k)

-- the items that a stream has given
abbrev pub given : List StripRule → List Row → ChildStream → List ℕ
given rules rows stream = given_to rules rows stream.n stream.last

abbrev pub StandsTo : List StripRule → List Row → ℕ → Option ℕ → Type 0
StandsTo rules rows n None = ⊤
StandsTo rules rows n (Some k) = (k < length rows) × (is_shown rules rows n k ≡ true)

-- the row is there, and the item that was given last is one of its visible children
abbrev pub IsStream : {M : Type 0} → Seen M → ChildStream → Type 0
IsStream seen stream = IsJoined seen.steps stream.n × StandsTo seen.rules (rows_of seen.steps) stream.n stream.last

-- what a call gives. A node is one more item. Nothing: all visible children were given, and there will be no more. Not yet: at a step of the call all that there were had been given, and there could be more
abbrev pub StreamIs : {M : Type 0} → Seen M → Seen M → ChildStream → ChildStream → Look → Type 0
StreamIs before later old new (Node k) =
    (given later.rules (rows_of later.steps) new ≡ given later.rules (rows_of later.steps) old ++ k ∷ []) × (new.n ≡ old.n) × (new.last ≡ Some k) × IsStream later new
StreamIs before later old new Nothing =
    (given later.rules (rows_of later.steps) old ≡ shown_of later.rules (rows_of later.steps) old.n) × (is_open later.steps old.n ≡ false) × (new ≡ old)
StreamIs before later old new NotYet =
    AtStep before.steps later.steps (λ steps. (given later.rules (rows_of steps) old ≡ shown_of later.rules (rows_of steps) old.n) × (is_open steps old.n ≡ true)) × (new ≡ old)

-- a stream stands at a later step, and has given the same
pub record StreamStays (rules : List StripRule) (before later : List Step) (stream : ChildStream) : Type 0 where
  pub joined : IsJoined later stream.n
  pub stands : StandsTo rules (rows_of later) stream.n stream.last
  pub same : given rules (rows_of later) stream ≡ given rules (rows_of before) stream
