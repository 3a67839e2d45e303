-- Runs that begin with a question, and runs that give where they began.
use Rattle.std.proofs.Common.{◌≡◌, refl, ap, ℕ, List, Option}
use Rattle.doc_model.specs.Answers.{Known, Fault, Open}
use Rattle.engine_meaning.specs.Runs.{State, Ran, Done, Faulted, Waits, Run, after, pure, ask}
use Rattle.fault_kinds.specs.declared.fault.FaultKind.{FaultKind}
use Rattle.frame_meaning.specs.Apart.{surface, under}
use Rattle.frame_meaning.specs.Stand.{Stand}
use Rattle.result_events.specs.declared.event.ResultEvent.{ResultEvent}
use Rattle.xpath_meaning.specs.Outcome.{Outcome, ◌>>=◌}
use Rattle.xpath_values.specs.declared.value.Value.{Value}

module _ {A B : Type 0} (b : Option (List ResultEvent)) (s : State) (k : A → Run B) (g : B → Run (Unit {0})) where
  pub known : (o : Outcome A) (x : A) → o ≡ Known x → after (under b (after (ask o s) k)) g ≡ after (under b (k x s)) g
  known o x is = ap (λ (o : Outcome A). after (under b (after (ask o s) k)) g) is

  pub fails : (o : Outcome A) (e : FaultKind) → o ≡ Fault e → after (under b (after (ask o s) k)) g ≡ Faulted e (surface b s)
  fails o e is = ap (λ (o : Outcome A). after (under b (after (ask o s) k)) g) is

  pub waits : (o : Outcome A) (m : ℕ) → o ≡ Open m → after (under b (after (ask o s) k)) g ≡ Waits m (surface b s)
  waits o m is = ap (λ (o : Outcome A). after (under b (after (ask o s) k)) g) is

-- a run that is done without a trace, and goes on with the same locals
pub flat : {A : Type 0} (b : Option (List ResultEvent)) (o : Ran A) (ls : List Value) (g : List Value → Run (Unit {0})) (h : Stand) (next : Stand → Run (Unit {0})) → ((t : State) → g ls t ≡ next h t)
    → after (under b (after o (λ _. pure ls))) g ≡ after (under b (after o (λ _. pure h))) next
flat b (Done x t) ls g h next e = e t
flat b (Faulted f t) ls g h next e = refl
flat b (Waits m t) ls g h next e = refl

-- a question whose answer is worked on
pub ask_maps : {A B C : Type 0} (o : Outcome A) (f : A → B) (k : B → Run C) (s : State) → after (ask (o >>= λ x. Known (f x)) s) k ≡ after (ask o s) (λ x. k (f x))
ask_maps (Known x) f k s = refl
ask_maps (Fault e) f k s = refl
ask_maps (Open m) f k s = refl
