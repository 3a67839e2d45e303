-- Whether steps lead to a node, where what stands before a `//` is tried at no ancestor again once it was tried at all of some node.
use Rattle.std.specs.Prelude.{ℕ, nat_lt, List, [], ◌∷◌, length, map, reverse, take, Bool, true, false, if◌then◌else◌, Option, Some, None}
use Rattle.doc_model.specs.declared.node_test.Test.TheVariants as test
use Rattle.doc_model.specs.declared.row.Axis.TheVariants as axis
use Rattle.doc_model.specs.Answers.{Known}
use Rattle.xpath_meaning.specs.Conversions.{first_of}
use Rattle.xpath_meaning.specs.Match.{MatchStep, match_step, is_step_to, starts}
use Rattle.xpath_meaning.specs.Outcome.{Outcome, ◌>>=◌}
use Rattle.xpath_meaning.specs.Reading.{Reading}
use Rattle.xpath_syntax.specs.declared.pattern.PatternPath.{PatternPath}
use Rattle.xpath_syntax.specs.declared.pattern.PatternStart.{PatternStart}
use Rattle.xpath_syntax.specs.declared.pattern.PatternStep.{PatternStep}
use Rattle.patterns.specs.declared.trials.Place.{Place}
use Rattle.patterns.specs.declared.trials.Turn.{Turn}
use Rattle.patterns.specs.declared.trials.Turn.TheVariants.{Missed, Up, Fork}

-- the first so many steps of a pattern, the last of them first
abbrev pub steps_left : List PatternStep → ℕ → List MatchStep
steps_left parts count = reverse (map match_step (take count parts))

-- A trial comes to None where the steps lead to the node. Else it comes to a number: with so many steps left, or more, that stand before a `//`, the ancestors were tried.
abbrev pub Trial : Type 0
Trial = ℕ → ℕ → Outcome (Option ℕ)

-- goes on, where the steps do not lead there
abbrev pub otherwise : Option ℕ → (ℕ → Outcome (Option ℕ)) → Outcome (Option ℕ)
otherwise None rest = Known None
otherwise (Some tried) rest = rest tried

-- the nodes in order, up to the first to which the steps lead
abbrev pub each_tried : Trial → List ℕ → ℕ → Outcome (Option ℕ)
each_tried trial [] tried = Known (Some tried)
each_tried trial (n ∷ ns) tried = trial tried n >>= λ left. otherwise left (each_tried trial ns)

abbrev pub tried_if : Trial → ℕ → Option ℕ → Outcome (Option ℕ)
tried_if trial tried None = Known (Some tried)
tried_if trial tried (Some n) = trial tried n

-- the ancestors of a node, where they were not tried with so many steps left
abbrev pub ancestors_tried : Reading → ℕ → Trial → ℕ → ℕ → Outcome (Option ℕ)
ancestors_tried R count trial tried n = if nat_lt count tried then (R.axis axis.Ancestor test.Any n >>= λ above. each_tried trial above count) else Known (Some tried)

-- behind a step that leads to a node: its ancestors, nearest first, or its parent
abbrev pub sources_tried : Reading → Bool → ℕ → Trial → ℕ → ℕ → Outcome (Option ℕ)
sources_tried R true count trial tried n = ancestors_tried R count trial tried n
sources_tried R false count trial tried n = R.axis axis.Parent test.Any n >>= λ above. tried_if trial tried (first_of above)

-- steps, the last one first
abbrev pub tries : Reading → PatternStart → List MatchStep → Trial
tries R start [] tried n = starts R start n >>= λ here. Known (if here then None else Some tried)
tries R start (step ∷ steps) tried n =
    is_step_to R step n >>= λ here. if here then sources_tried R step.deep (length steps) (tries R start steps) tried n else Known (Some tried)

-- the same of a pattern's first so many steps
abbrev pub tries_place : Reading → PatternPath → ℕ → Place → Outcome (Option ℕ)
tries_place R path tried place = tries R path.start (steps_left path.parts place.steps) tried place.node

abbrev pub place_at : ℕ → ℕ → Place
place_at steps node = record { steps = steps; node = node }

abbrev pub up_from : ℕ → Option ℕ → Turn
up_from count None = Missed
up_from count (Some above) = Up (place_at count above)

abbrev pub turn_behind : Reading → Bool → ℕ → ℕ → Outcome (Option Turn)
turn_behind R true count n = Known (Some (Fork (place_at count n)))
turn_behind R false count n = R.axis axis.Parent test.Any n >>= λ above. Known (Some (up_from count (first_of above)))

-- the start of a pattern ends the search, where the pattern may start at the node
abbrev pub met_if : Bool → Option Turn
met_if true = None
met_if false = Some Missed

-- what the last step comes to; nothing, where the pattern is met
abbrev pub turn_of : Reading → PatternStart → List MatchStep → ℕ → Outcome (Option Turn)
turn_of R start [] n = starts R start n >>= λ here. Known (met_if here)
turn_of R start (step ∷ steps) n = is_step_to R step n >>= λ here. if here then turn_behind R step.deep (length steps) n else Known (Some Missed)

-- what the steps before it come to
abbrev pub turned : Reading → PatternPath → ℕ → Option Turn → Outcome (Option ℕ)
turned R path tried None = Known None
turned R path tried (Some Missed) = Known (Some tried)
turned R path tried (Some (Up place)) = tries_place R path tried place
turned R path tried (Some (Fork place)) = ancestors_tried R place.steps (tries R path.start (steps_left path.parts place.steps)) tried place.node

-- the ancestors of nodes that are still to be tried, the latest node first
abbrev pub resumed : Reading → PatternPath → List Place → Option ℕ → Outcome Bool
resumed R path forks None = Known true
resumed R path [] (Some tried) = Known false
resumed R path (fork ∷ forks) (Some tried) =
    (R.axis axis.Ancestor test.Any fork.node >>= λ above. each_tried (tries R path.start (steps_left path.parts fork.steps)) above tried) >>= resumed R path forks

-- from a place on, and from nowhere
abbrev pub gone : Reading → PatternPath → ℕ → List Place → Option Place → Outcome Bool
gone R path tried forks None = Known false
gone R path tried forks (Some place) = tries_place R path tried place >>= resumed R path (reverse forks)
