-- How bodies, the work at items and bodies that are run apart end.
use Rattle.std.proofs.Common.{◌≡◌, refl, sym, ap, ◌∙◌, List, take, length, Option}
use Rattle.engine_meaning.specs.Runs.{State, Ran, Done, Faulted, Waits, Run, after, pure, with_events, back_to}
use Rattle.frame_meaning.proofs.Locals.{Adds, take_back}
use Rattle.frame_meaning.proofs.Surfaces.{surface_out}
use Rattle.frame_meaning.specs.Apart.{under}
use Rattle.frames.specs.Apart.{innermost}
use Rattle.frame_meaning.specs.Stand.{Stand, at_place}
use Rattle.result_events.specs.declared.event.ResultEvent.{ResultEvent}
use Rattle.xpath_meaning.specs.declared.context.Context.{Context}
use Rattle.xpath_values.specs.declared.value.Value.{Value}

-- a body whose locals end with it, in a run r that goes on without them, and the same body in a frame of its own
pub body_ends : {B : Type 0} (b : Option (List ResultEvent)) (h : Stand) (context : Context) (ls : List Value) (o : Ran (List Value)) → Adds ls o
    → (k : Run B) (g : B → Run (Unit {0})) (next : Stand → Run (Unit {0}))
    → ((t : State) → after (under b (k t)) g ≡ next (at_place h context ls) t)
    → after (under b (after (after o (λ _. pure (tt {0}))) (λ _. k))) g ≡ after (under b (after o (λ l. pure (at_place h context (take (length ls) l))))) next
body_ends b h context ls (Done l t) a k g next e = e t ∙ ap (λ l. next (at_place h context l) t) (sym (take_back ls l a.locals))
body_ends b h context ls (Faulted f t) a k g next e = refl
body_ends b h context ls (Waits m t) a k g next e = refl

-- a body that is run apart, in a run that goes on with what it made, and the same body in a frame of its own above that of its end
pub apart_ends : {B : Type 0} (b : Option (List ResultEvent)) (h : Stand) (context : Context) (ls : List Value) (outer : List ResultEvent) (o : Ran (List Value)) → Adds ls o
    → (k : List ResultEvent → Run B) (g : B → Run (Unit {0}))
    (next : Stand → Run (Unit {0})) → ((t : State) → after (under b (k t.events (with_events t outer))) g ≡ next (at_place h context ls) t)
    → after (under b (after (back_to outer o) k)) g ≡ after (under (innermost b outer) (after o (λ l. pure (at_place h context (take (length ls) l))))) next
apart_ends b h context ls outer (Done l t) a k g next e = e t ∙ ap (λ l. next (at_place h context l) t) (sym (take_back ls l a.locals))
apart_ends b h context ls outer (Faulted f t) a k g next e = ap (Faulted f) (sym (surface_out b outer t))
apart_ends b h context ls outer (Waits m t) a k g next e = ap (Waits m) (sym (surface_out b outer t))
