-- Places of a search for the start of a pattern.
use Rattle.std.specs.Prelude.{◌≡◌, ℕ, ◌+◌, ◌*◌, ◌^◌, ◌<◌, ◌≤◌, nat_lt, List, [], ◌∷◌, ◌++◌, if◌then◌else◌, Option, Some, None, ⊤}
use Rattle.doc_model.specs.declared.step.Step.{Step}
use Rattle.doc_model.specs.Lawful.{Grows, IsLawful}
use Rattle.doc_model.specs.View.{Seen}
use Rattle.key_sources.specs.Going.{Lookups, reading_by}
use Rattle.xpath_laws.specs.Sound.{Each, IsThere}
use Rattle.xpath_meaning.specs.Outcome.{Outcome, ◌>>=◌}
use Rattle.xpath_meaning.specs.Reading.{Reading}
use Rattle.patterns.specs.declared.trials.Place.{Place}
use Rattle.patterns.specs.declared.trials.Turn.{Turn}
use Rattle.patterns.specs.declared.trials.Turn.TheVariants.{Missed, Up, Fork}

-- ---- their nodes are there and visible

abbrev pub PlaceIsThere : {M : Type 0} → Seen M → Place → Type 0
PlaceIsThere seen place = IsThere seen.rules seen.steps place.node

abbrev pub AllThere : {M : Type 0} → Seen M → List Place → Type 0
AllThere seen places = Each (PlaceIsThere seen) places

abbrev pub FoundIsThere : {M : Type 0} → Seen M → Option Place → Type 0
FoundIsThere seen None = ⊤
FoundIsThere seen (Some place) = PlaceIsThere seen place

abbrev pub TurnIsThere : {M : Type 0} → Seen M → Turn → Type 0
TurnIsThere seen Missed = ⊤
TurnIsThere seen (Up place) = PlaceIsThere seen place
TurnIsThere seen (Fork place) = PlaceIsThere seen place

-- ---- no more than so many steps are left

abbrev pub IsWithin : ℕ → Place → Type 0
IsWithin count place = place.steps ≤ count

abbrev pub AllWithin : ℕ → List Place → Type 0
AllWithin count places = Each (IsWithin count) places

abbrev pub FoundIsWithin : ℕ → Option Place → Type 0
FoundIsWithin count None = ⊤
FoundIsWithin count (Some place) = IsWithin count place

abbrev pub TurnIsWithin : ℕ → Turn → Type 0
TurnIsWithin count Missed = ⊤
TurnIsWithin count (Up place) = IsWithin count place
TurnIsWithin count (Fork place) = IsWithin count place

-- fewer steps are left than so many
abbrev pub TurnIsBefore : ℕ → Turn → Type 0
TurnIsBefore count Missed = ⊤
TurnIsBefore count (Up place) = place.steps < count
TurnIsBefore count (Fork place) = place.steps < count

-- ---- one more node whose ancestors are to be tried, where those steps were not tried at ancestors before

abbrev pub tried_with : Place → ℕ → ℕ
tried_with place tried = if nat_lt place.steps tried then place.steps else tried

abbrev pub forks_with : Place → ℕ → List Place → List Place
forks_with place tried forks = if nat_lt place.steps tried then forks ++ place ∷ [] else forks

-- ---- how much there is to be tried

abbrev pub weight : List Place → ℕ
weight [] = 0
weight (place ∷ places) = place.node + weight places

-- with so many steps left ancestors were tried; as many nodes as there are at most
abbrev pub burden : ℕ → List Place → ℕ
burden tried forks = tried * 2 ^ 32 + weight forks

-- behind a turn there is less to be tried, or the search goes on where the turn leads
abbrev pub IsLighter : ℕ → List Place → Turn → ℕ → List Place → Option Place → Type 0
IsLighter tried forks turn tried' forks' None = ⊤
IsLighter tried forks Missed tried' forks' (Some next) = burden tried' forks' < burden tried forks
IsLighter tried forks (Up place) tried' forks' (Some next) = (next ≡ place) × (burden tried' forks' ≡ burden tried forks)
IsLighter tried forks (Fork place) tried' forks' (Some next) = burden tried' forks' < burden tried forks

-- ---- two ways to go on

-- at what a view has seen, and at every lawful growth, the one way and what is left behind it come to the same as the other
pub record GoesAs {M A B : Type 0} (seen : Seen M) (way : Reading → Outcome A) (left : Reading → A → Outcome B) (other : Reading → Outcome B) : Type 0 where
  pub same : (lookups : Lookups) (steps : List Step) → Grows seen.steps steps → IsLawful steps
      → (way (reading_by lookups seen.rules steps) >>= left (reading_by lookups seen.rules steps)) ≡ other (reading_by lookups seen.rules steps)
