-- The nodes of a location path of child steps, taken one by one.
use Rattle.std.specs.Prelude.{ℕ, suc, List, [], ◌∷◌, Bool, true, false, Option, Some, None}
use Rattle.doc_model.specs.Answers.{Known}
use Rattle.xpath_meaning.specs.declared.context.Size.TheVariants as size
use Rattle.xpath_meaning.specs.Meanings.{Meaning, Meant, MeantStep, MeantPath, holds_at, at_node}
use Rattle.xpath_meaning.specs.Outcome.{Outcome, ◌>>=◌}
use Rattle.xpath_meaning.specs.Steps.{start_of}
use Rattle.xpath_meaning.specs.Streams.{Stream, Ending, all_of, ends, then_stream, stream_of}
use Rattle.xpath_meaning.specs.Tests.{test_of}

-- How many nodes came to each predicate so far. A node's position at a predicate counts those that passed the ones before.

abbrev pub first_count : List ℕ → ℕ
first_count [] = 0
first_count (n ∷ ns) = n

abbrev pub later_counts : List ℕ → List ℕ
later_counts [] = []
later_counts (n ∷ ns) = ns

-- a node that was tested: the counts with it, and whether it passed all predicates
pub record Tested : Type 0 where
  pub counts : List ℕ
  pub passed : Bool

abbrev pub counting : ℕ → Tested → Tested
counting n t = record { counts = n ∷ t.counts; passed = t.passed }

-- behind a predicate at which the node has this position: the later ones test it only where it holds
abbrev pub tested_on : Bool → ℕ → List ℕ → Outcome Tested → Outcome Tested
tested_on true position counts rest = rest >>= λ t. Known (counting position t)
tested_on false position counts rest = Known (record { counts = position ∷ counts; passed = false })

abbrev pub tested : List Meant → List ℕ → ℕ → Meaning (Outcome Tested)
tested [] counts n R values c = Known (record { counts = counts; passed = true })
tested (predicate ∷ predicates) counts n R values c =
    holds_at predicate R values (at_node c size.Unasked (suc (first_count counts)) n) >>= λ here.
    tested_on here (suc (first_count counts)) (later_counts counts) (tested predicates (later_counts counts) n R values c)

abbrev pub if_passed : Bool → Stream → Stream
if_passed true found = found
if_passed false found = all_of []

-- each node in order: it is tested, and where it passes, what lies behind it comes before the next node is looked at
abbrev pub through : List Meant → (ℕ → Stream) → List ℕ → List ℕ → Ending → Meaning Stream
through predicates inside counts [] ending R values c = ends ending
through predicates inside counts (n ∷ ns) ending R values c =
    stream_of (tested predicates counts n R values c) (λ t. then_stream (if_passed t.passed (inside n)) (through predicates inside t.counts ns ending R values c))

-- the items of child steps one behind the other, depth first
abbrev pub steps_items : List MeantStep → ℕ → Meaning Stream
steps_items [] n R values c = all_of (n ∷ [])
steps_items (step ∷ steps) n R values c =
    through step.predicates (λ k. steps_items steps k R values c) [] (R.children (test_of step.test) n).items (R.children (test_of step.test) n).ending R values c

-- the items of a location path
abbrev pub path_items : MeantPath → Meaning Stream
path_items path R values c = steps_items path.parts (start_of path c) R values c

-- the items, where the path may be taken so
abbrev pub if_streams : Bool → MeantPath → Option (Meaning Stream)
if_streams true path = Some (path_items path)
if_streams false path = None
