-- What the readers have made of a table.
use Rattle.std.proofs.Common.{◌≡◌, ℕ, zero, suc, ◌+◌, ◌<◌, List, [], ◌∷◌, ◌++◌, length, map, replicate, get_or, set, refl, sym, ◌∙◌, ap, subst, arith}
use Rattle.std.proofs.lemmas.List.{map-set, length-map}
use Rattle.std.specs.List.{range_with_len}
use Rattle.doc_model.specs.declared.step.Step.{Step}
use Rattle.doc_model.specs.Cells.{Cells}
use Rattle.doc_model.specs.Lawful.{Grows}
use Rattle.doc_model.specs.View.{Seen, Moves}
use Rattle.doc_laws.proofs.Growth.{Grows-trans}
use Rattle.doc_laws.proofs.Still.{Grows-antisym, at_still}
use Rattle.plain_columns.specs.Seen.{seen_of}
use Rattle.text_walk.specs.declared.turn.Turn.{Turn}
use Rattle.text_walk.specs.declared.turn.Turn.TheVariants.{NotYet, Done, Faulted}
use Rattle.text_walk.specs.Turning.{TurnIs, WaitsFor}
use Rattle.text_walk.specs.Walking.{Walking, IsBehind}
use Rattle.sessions.specs.declared.follower.Follower.{Follower}
use Rattle.sessions.specs.declared.outcome.Outcome.{Outcome}
use Rattle.sessions.specs.Running.{IsTurn, AreBehind}

abbrev pub made_by : Follower → ℕ
made_by follower = follower.walker.made

-- a table that is borrowed stands still
pub stood_still : (cells : Cells) (later : Seen (Unit {0})) → Moves (seen_of cells) later → later.steps ≡ cells.steps
stood_still cells later moves =
    let within : Grows later.steps cells.steps = rw moves.whole_stays at moves.seen.within in
    Grows-antisym cells.steps later.steps moves.grows within

pub still_turn : (walker : Walking) (bytes : List ℕ) (before later : List Step) (turn : Turn) → later ≡ before → TurnIs walker bytes before later turn → TurnIs walker bytes before before turn
still_turn walker bytes before later turn same is = subst (λ (steps : List Step). TurnIs walker bytes before steps turn) same is

pub turn_told : (walker : Walking) (bytes : List ℕ) (steps : List Step) (turn : Turn) → TurnIs walker bytes steps steps turn → IsTurn 0 steps turn
turn_told walker bytes steps (NotYet m) is = let it = at_still steps (WaitsFor walker bytes m) is in (it.sound, it.going, it.waits)
turn_told walker bytes steps Done is = (is.sound, is.shut)
turn_told walker bytes steps (Faulted kind) is = is.fault

-- readers of a table are readers of all that it grows to
pub behind_growth : (before later : List Step) (followers : List Follower) → Grows before later → AreBehind before followers → AreBehind later followers
behind_growth before later [] grows behind = tt
behind_growth before later (follower ∷ followers) grows behind =
    ((behind.0.0, Grows-trans behind.0.0 before later behind.0.1 grows, behind.0.2), behind_growth before later followers grows behind.1)

pub behind_join : (steps : List Step) (front back : List Follower) → AreBehind steps front → AreBehind steps back → AreBehind steps (front ++ back)
behind_join steps [] back behind more = more
behind_join steps (follower ∷ front) back behind more = (behind.0, behind_join steps front back behind.1 more)

pub behind_at : (steps : List Step) (followers : List Follower) (i : ℕ) (other : Follower) → AreBehind steps followers → i < length followers
    → IsBehind (get_or followers i other).walker steps (get_or followers i other).text.items
behind_at steps [] i other behind below = absurd (omega arith)
behind_at steps (follower ∷ followers) zero other behind below = behind.0
behind_at steps (follower ∷ followers) (suc i) other behind below = behind_at steps followers i other behind.1 (omega arith)

pub behind_set : (steps : List Step) (followers : List Follower) (i : ℕ) (next : Follower) → AreBehind steps followers → IsBehind next.walker steps next.text.items
    → AreBehind steps (set followers i next)
behind_set steps [] i next behind it = tt
behind_set steps (follower ∷ followers) zero next behind it = (it, behind.1)
behind_set steps (follower ∷ followers) (suc i) next behind it = (behind.0, behind_set steps followers i next behind.1 it)

pub counted : (followers : List Follower) (i : ℕ) (next : Follower) (made : ℕ) → next.walker.made ≡ made → map made_by (set followers i next) ≡ set (map made_by followers) i made
counted followers i next made is = map-set made_by followers i next ∙ ap (λ (count : ℕ). set (map made_by followers) i count) is

pub one_more_zero : (n : ℕ) → replicate {A = ℕ} (suc n) 0 ≡ replicate n 0 ++ 0 ∷ []
one_more_zero zero = refl
one_more_zero (suc n) = ap (λ (zeros : List ℕ). 0 ∷ zeros) (one_more_zero n)

pub all_one : (followers : List Follower) (outcome : Outcome) → map (λ (_ : Follower). outcome) followers ≡ replicate (length followers) outcome
all_one [] outcome = refl
all_one (follower ∷ followers) outcome = ap (λ (outcomes : List Outcome). outcome ∷ outcomes) (all_one followers outcome)

one_each : (n from : ℕ) (outcome : Outcome) → replicate n outcome ≡ map (λ (_ : ℕ). outcome) (range_with_len from n)
one_each zero from outcome = refl
one_each (suc n) from outcome = ap (λ (outcomes : List Outcome). outcome ∷ outcomes) (one_each n (from + 1) outcome)

-- the readers' outcomes, one for each
pub outcomes_told : (followers : List Follower) (outcome : Outcome) → map (λ (_ : Follower). outcome) followers ≡ map (λ (_ : ℕ). outcome) (range_with_len 0 (length (map made_by followers)))
outcomes_told followers outcome =
    all_one followers outcome ∙ one_each (length followers) 0 outcome ∙ ap (λ (n : ℕ). map (λ (_ : ℕ). outcome) (range_with_len 0 n)) (sym (length-map followers made_by))

-- a count that is set to itself
pub set_same : (counts : List ℕ) (i other : ℕ) → i < length counts → counts ≡ set counts i (get_or counts i other)
set_same [] i other below = absurd (omega arith)
set_same (count ∷ counts) zero other below = refl
set_same (count ∷ counts) (suc i) other below = ap (λ (rest : List ℕ). count ∷ rest) (set_same counts i other (omega arith))

pub nothing_left : (followers : List Follower) → length followers ≡ 0 → followers ≡ []
nothing_left [] none = refl
nothing_left (follower ∷ followers) none = absurd (omega arith)
