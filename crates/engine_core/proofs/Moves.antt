-- How the answers of what is asked and called make the answer of a move.
use Rattle.std.proofs.Common.{◌≡◌, refl, sym, ◌∙◌, subst, ℕ, ◌+◌, ◌<◌, List, Result, Ok, Err}
use Rattle.std.specs.Prelude.{IsErrAnd}
use Rattle.doc_model.specs.Answers as answer
use Rattle.doc_model.specs.Lawful.{AtStep}
use Rattle.doc_model.specs.declared.step.Step.{Step}
use Rattle.engine_core.proofs.Asking.{Hears}
use Rattle.engine_core.specs.Holding.{Scene, Sound, world_at}
use Rattle.engine_core.specs.Moving.{Does, Goes, Left, Tries, WaitsAt}
use Rattle.engine_core.specs.Standing.{left_of, made, measure}
use Rattle.engine_core.specs.declared.state.Core.{Core}
use Rattle.engine_laws.specs.Growing.{Continues}
use Rattle.engine_meaning.specs.Places.{World}
use Rattle.engine_meaning.specs.Runs.{Faulted, Waits}
use Rattle.fault_kinds.specs.declared.fault.FaultKind.{FaultKind}
use Rattle.xpath_meaning.specs.Outcome.{Outcome}
use Rattle.xpath_meaning.specs.declared.stop.EvalStop.{EvalStop}
use Rattle.xpath_meaning.specs.declared.stop.EvalStop.TheVariants.{NotYet, Fault, Memory}

-- what is left stops where the part that is asked first stops
pub record Hangs {S A : Type 0} (at : World → Outcome A) (what : Left) (m : Core S) : Type 0 where
  pub fails : (u : World) (k : FaultKind) → at u ≡ answer.Fault k → what u ≡ Faulted k (made m)
  pub waits : (u : World) (n : ℕ) → at u ≡ answer.Open n → what u ≡ Waits n (made m)

pub waits_so : {S A : Type 0} (z : Scene S) (before later : List Step) {at : World → Outcome A} {what : Left} {m : Core S} (n : ℕ) → Hangs at what m
    → AtStep before later (λ steps. at (world_at z steps) ≡ answer.Open n) → WaitsAt z before later what n m
waits_so z before later n h a = (a.0, a.1, a.2, h.waits (world_at z a.0) n a.3)

-- the exit of a question that stopped, where nothing was done yet
pub stops : {S A : Type 0} (B : Type 0) (z : Scene S) (before later : List Step) (at : World → Outcome A) (what : Left) (load : ℕ) (m : Core S) (e : EvalStop) → Hangs at what m
    → Hears {A = A} z before later at (Err e) → Tries {A = B} z before later what load m m (Err e)
stops B z before later at what load m (Fault k) h a = h.fails (world_at z later) k a
stops B z before later at what load m (NotYet n) h a = record { same = refl; waits = waits_so z before later n h a }
stops B z before later at what load m Memory h a = tt

-- the same, where the error is handed on by `?`
pub stops_by : {S A B : Type 0} (z : Scene S) (before later : List Step) (at : World → Outcome A) (what : Left) (load : ℕ) (m : Core S) (e : EvalStop) (r : Result B EvalStop) → Hangs at what m
    → Hears {A = A} z before later at (Err e) → IsErrAnd r (λ x. x ≡ e) → Tries z before later what load m m r
stops_by z before later at what load m e (Ok x) h a is = absurd is
stops_by {B = B} z before later at what load m e (Err x) h a is = subst (λ x. Tries {A = B} z before later what load m m (Err x)) (sym is) (stops B z before later at what load m e h a)

-- what stopped is put back as it was
pub put_back : {S A : Type 0} (B : Type 0) (z : Scene S) (before later : List Step) (at : World → Outcome A) (what : Left) (load : ℕ) (old new : Core S) (e : EvalStop)
    → new.sheet ≡ old.sheet → ((u : World) → what u ≡ left_of new u) → Sound z later new.frames new → Hangs at what new
    → Hears {A = A} z before later at (Err e) → Goes {A = B} z before later what load old new (Err e)
put_back B z before later at what load old new (Fault k) sheet left sound h a = h.fails (world_at z later) k a
put_back B z before later at what load old new (NotYet n) sheet left sound h a = record { sheet = sheet; left = λ u x. left u; waits = waits_so z before later n h a; sound = sound }
put_back B z before later at what load old new Memory sheet left sound h a = tt

-- a move that asks nothing of the document, behind the call that found its answer
pub does_goes : {S A : Type 0} (z : Scene S) (before later : List Step) (what : Left) (load : ℕ) (old new : Core S) (r : Result A EvalStop) → Does z later what load old new r
    → Goes z before later what load old new r
does_goes z before later what load old new (Ok x) d = d
does_goes z before later what load old new (Err (Fault k)) d = d
does_goes z before later what load old new (Err (NotYet m)) d = absurd d
does_goes z before later what load old new (Err Memory) d = tt

pub does_tries : {S A : Type 0} (z : Scene S) (before later : List Step) (what : Left) (load : ℕ) (old new : Core S) (r : Result A EvalStop) → Does z later what load old new r
    → Tries z before later what load old new r
does_tries z before later what load old new (Ok x) d = d
does_tries z before later what load old new (Err (Fault k)) d = d
does_tries z before later what load old new (Err (NotYet m)) d = absurd d
does_tries z before later what load old new (Err Memory) d = tt

-- the same move, of what is the same on every growth, under a greater load
pub does_same : {S A : Type 0} (z : Scene S) (steps : List Step) (what that : Left) (load : ℕ) (more : ℕ) (old new : Core S) (r : Result A EvalStop)
    → ((u : World) → Continues (world_at z steps) u → that u ≡ what u) → that (world_at z steps) ≡ what (world_at z steps) → (measure new < measure old + load → measure new < measure old + more)
    → Does z steps what load old new r → Does z steps that more old new r
does_same z steps what that load more old new (Ok x) same here light d = record { sheet = d.sheet; left = λ u y. same u y ∙ d.left u y; lighter = light d.lighter; sound = d.sound }
does_same z steps what that load more old new (Err (Fault k)) same here light d = here ∙ d
does_same z steps what that load more old new (Err (NotYet m)) same here light d = absurd d
does_same z steps what that load more old new (Err Memory) same here light d = tt
