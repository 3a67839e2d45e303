-- Runs that keep their answers and what they made.
use Rattle.std.proofs.Common.{◌≡◌, refl, sym, ap, ◌∙◌, subst, ℕ, zero, suc, List, [], ◌∷◌, ◌++◌, append_assoc, append-nil, Bool, true, false, cond}
use Rattle.doc_model.specs.Answers as answer
use Rattle.doc_model.specs.Answers.{Stays}
use Rattle.fault_kinds.specs.declared.fault.FaultKind.{FaultKind}
use Rattle.result_events.specs.declared.event.ResultEvent.{ResultEvent}
use Rattle.result_events.specs.Pushed.{is_empty_text}
use Rattle.xpath_meaning.specs.declared.context.Context.{Context}
use Rattle.xpath_meaning.specs.declared.context.Size.{Size}
use Rattle.xpath_meaning.specs.declared.context.Size.TheVariants as size
use Rattle.xpath_meaning.specs.Outcome.{Outcome}
use Rattle.xpath_meaning.specs.Streams.{Stream, Ending, Whole, Fault, Cut, GoesOnFrom, GoesOn}
use Rattle.engine_meaning.specs.Items.{AtItem, ends, each, streamed, over}
use Rattle.engine_meaning.specs.Places.{at_item}
use Rattle.engine_meaning.specs.Runs.{State, Ran, Done, Faulted, Waits, Run, after, ◌>>=◌, ◌>>◌, pure, fail, ask, spend_from, spend, emit, emit_all, tell, with_events, back_to, apart}
use Rattle.engine_laws.specs.Growing.{Begins, state_of, Later}

pub begins_refl : (s : State) → Begins s s
begins_refl s = record { more_events = []; events = sym (append-nil s.events); more_messages = []; messages = sym (append-nil s.messages) }

pub begins_trans : {s t u : State} → Begins s t → Begins t u → Begins s u
begins_trans {s} b d = record {
  more_events = b.more_events ++ d.more_events;
  events = d.events ∙ ap (λ l. l ++ d.more_events) b.events ∙ append_assoc s.events b.more_events d.more_events;
  more_messages = b.more_messages ++ d.more_messages;
  messages = d.messages ∙ ap (λ l. l ++ d.more_messages) b.messages ∙ append_assoc s.messages b.more_messages d.more_messages;
}

begins_same : (s t : State) → t.events ≡ s.events → t.messages ≡ s.messages → Begins s t
begins_same s t e m = record { more_events = []; events = e ∙ sym (append-nil s.events); more_messages = []; messages = m ∙ sym (append-nil s.messages) }

-- The later run keeps what the earlier one did, and no run takes back what was made.
pub record Keeps {A : Type 0} (r q : Run A) : Type 0 where
  pub later : (s : State) → Later (r s) (q s)
  pub adds : (s : State) → Begins s (state_of (q s))

-- what is made after a run comes behind what the run made
after_adds : {A B : Type 0} (o : Ran A) (f : A → Run B) → ((x : A) (s : State) → Begins s (state_of (f x s))) → Begins (state_of o) (state_of (after o f))
after_adds (Done x s) f a = a x s
after_adds (Faulted e s) f a = begins_refl s
after_adds (Waits m s) f a = begins_refl s

after_later : {A B : Type 0} (o p : Ran A) (f g : A → Run B) → Later o p → ((x : A) → Keeps (f x) (g x)) → Later (after o f) (after p g)
after_later (Done x s) p f g l k = subst (λ w. Later (f x s) (after w g)) (sym l) ((k x).later s)
after_later (Faulted e s) p f g l k = ap (λ w. after w g) l
after_later (Waits m s) p f g l k = begins_trans l (after_adds p g (λ x. (k x).adds))

pub bind_keeps : {A B : Type 0} {r q : Run A} {f g : A → Run B} → Keeps r q → ((x : A) → Keeps (f x) (g x)) → Keeps (r >>= f) (q >>= g)
bind_keeps {r = r} {q} {f} {g} k h = record {
  later = λ s. after_later (r s) (q s) f g (k.later s) h;
  adds = λ s. begins_trans (k.adds s) (after_adds (q s) g (λ x. (h x).adds));
}

pub then_keeps : {A B : Type 0} {r q : Run A} {f g : Run B} → Keeps r q → Keeps f g → Keeps (r >> f) (q >> g)
then_keeps k h = bind_keeps k (λ x. h)

later_refl : {A : Type 0} (o : Ran A) → Later o o
later_refl (Done x s) = refl
later_refl (Faulted e s) = refl
later_refl (Waits m s) = begins_refl s

-- a run that sees no document
pub alone : {A : Type 0} {r : Run A} → ((s : State) → Begins s (state_of (r s))) → Keeps r r
alone {r = r} a = record { later = λ s. later_refl (r s); adds = a }

pub pure_keeps : {A : Type 0} (x : A) → Keeps (pure x) (pure x)
pure_keeps x = alone begins_refl

pub fail_keeps : {A : Type 0} (e : FaultKind) → Keeps {A = A} (fail e) (fail e)
fail_keeps e = alone begins_refl

spend_adds : (n : ℕ) (s : State) → Begins s (state_of (spend_from n s.events s.messages))
spend_adds zero s = begins_same s _ refl refl
spend_adds (suc n) s = begins_same s _ refl refl

pub spend_keeps : Keeps spend spend
spend_keeps = alone (λ s. spend_adds s.budget s)

one_more : (b : Bool) (events : List ResultEvent) (e : ResultEvent) → (more : List ResultEvent) × (cond b events (events ++ e ∷ []) ≡ events ++ more)
one_more true events e = ([], sym (append-nil events))
one_more false events e = (e ∷ [], refl)

emit_adds : (e : ResultEvent) (s : State) → Begins s (state_of (emit e s))
unfolding emit
emit_adds e s = let m = one_more (is_empty_text e) s.events e in record { more_events = m.0; events = m.1; more_messages = []; messages = sym (append-nil s.messages) }

pub emit_keeps : (e : ResultEvent) → Keeps (emit e) (emit e)
emit_keeps e = alone (emit_adds e)

pub emit_all_keeps : (events : List ResultEvent) → Keeps (emit_all events) (emit_all events)
emit_all_keeps events = alone (λ s. record { more_events = events; events = refl; more_messages = []; messages = sym (append-nil s.messages) })

pub tell_keeps : (line : List ℕ) → Keeps (tell line) (tell line)
tell_keeps line = alone (λ s. record { more_events = []; events = sym (append-nil s.events); more_messages = line ∷ []; messages = refl })

ask_begins : {A : Type 0} (o : Outcome A) (s : State) → Begins s (state_of (ask o s))
ask_begins (answer.Known x) s = begins_refl s
ask_begins (answer.Fault e) s = begins_refl s
ask_begins (answer.Open m) s = begins_refl s

ask_later : {A : Type 0} (o p : Outcome A) (s : State) → Stays o p → Later (ask o s) (ask p s)
ask_later (answer.Known x) p s h = ap (λ w. ask w s) h
ask_later (answer.Fault e) p s h = ap (λ w. ask w s) h
ask_later (answer.Open m) p s h = ask_begins p s

pub ask_keeps : {A : Type 0} (o p : Outcome A) → Stays o p → Keeps (ask o) (ask p)
ask_keeps o p h = record { later = λ s. ask_later o p s h; adds = ask_begins p }

-- Bodies that are run apart.

pub with_begins : (t u : State) (outer : List ResultEvent) → Begins t u → Begins (with_events t outer) (with_events u outer)
with_begins t u outer b = record { more_events = []; events = sym (append-nil outer); more_messages = b.more_messages; messages = b.messages }

back_begins : {A : Type 0} (outer : List ResultEvent) (t : State) (p : Ran A) → Begins t (state_of p) → Begins (with_events t outer) (state_of (back_to outer p))
back_begins outer t (Done x u) b = with_begins t u outer b
back_begins outer t (Faulted e u) b = with_begins t u outer b
back_begins outer t (Waits m u) b = with_begins t u outer b

back_later : {A : Type 0} (outer : List ResultEvent) (o p : Ran A) → Later o p → Later (back_to outer o) (back_to outer p)
back_later outer (Done x t) p l = ap (back_to outer) l
back_later outer (Faulted e t) p l = ap (back_to outer) l
back_later outer (Waits m t) p l = back_begins outer t p l

-- what was outside begins what is outside again
apart_adds : {A : Type 0} (s : State) (p : Ran A) → Begins (with_events s []) (state_of p) → Begins s (state_of (back_to s.events p))
apart_adds s p b = back_begins s.events (with_events s []) p b

pub apart_keeps : {A : Type 0} {r q : Run A} → Keeps r q → Keeps (apart r) (apart q)
apart_keeps {r = r} {q} k = record {
  later = λ s. back_later s.events (r (with_events s [])) (q (with_events s [])) (k.later (with_events s []));
  adds = λ s. apart_adds s (q (with_events s [])) (k.adds (with_events s []));
}

-- Items.

pub ends_adds : (ending : Ending) (s : State) → Begins s (state_of (ends ending s))
ends_adds Whole s = begins_refl s
ends_adds (Fault e) s = begins_refl s
ends_adds (Cut m) s = begins_refl s

each_adds : (act : AtItem) → ((x : Context) (s : State) → Begins s (state_of (act x s))) → (z : Size) (at : ℕ) (ns : List ℕ) (ending : Ending) (s : State)
    → Begins s (state_of (each act z at ns ending s))
each_adds act a z at [] ending s = ends_adds ending s
each_adds act a z at (n ∷ ns) ending s =
    begins_trans (a (at_item z at n) s) (after_adds (act (at_item z at n) s) (λ _. each act z (suc at) ns ending) (λ x t. each_adds act a z (suc at) ns ending t))

pub each_keeps : {act bct : AtItem} → ((x : Context) → Keeps (act x) (bct x)) → (z : Size) (at : ℕ) (ns : List ℕ) (ending : Ending) → Keeps (each act z at ns ending) (each bct z at ns ending)
each_keeps k z at [] ending = alone (ends_adds ending)
each_keeps k z at (n ∷ ns) ending = then_keeps (k (at_item z at n)) (each_keeps k z (suc at) ns ending)

-- items that are cut, and more of them
more_keeps : {act bct : AtItem} → ((x : Context) → Keeps (act x) (bct x)) → (z : Size) (at m : ℕ) (ns more : List ℕ) (ending : Ending)
    → Keeps (each act z at ns (Cut m)) (each bct z at (ns ++ more) ending)
more_keeps {bct = bct} k z at m [] more ending = record { later = λ s. each_adds bct (λ x. (k x).adds) z at more ending s; adds = each_adds bct (λ x. (k x).adds) z at more ending }
more_keeps k z at m (n ∷ ns) more ending = then_keeps (k (at_item z at n)) (more_keeps k z (suc at) m ns more ending)

pub each_goes_on : {act bct : AtItem} → ((x : Context) → Keeps (act x) (bct x)) → (z : Size) (at : ℕ) (ns : List ℕ) (ending : Ending) (later : Stream) → GoesOnFrom ns ending later
    → Keeps (each act z at ns ending) (each bct z at later.items later.ending)
each_goes_on {act} {bct} k z at ns Whole later h = subst (λ (w : Stream). Keeps (each act z at ns Whole) (each bct z at w.items w.ending)) (sym h) (each_keeps k z at ns Whole)
each_goes_on {act} {bct} k z at ns (Fault e) later h = subst (λ (w : Stream). Keeps (each act z at ns (Fault e)) (each bct z at w.items w.ending)) (sym h) (each_keeps k z at ns (Fault e))
each_goes_on {act} {bct} k z at ns (Cut m) later h = subst (λ w. Keeps (each act z at ns (Cut m)) (each bct z at w later.ending)) (sym h.1) (more_keeps k z at m ns h.0 later.ending)

pub streamed_keeps : {act bct : AtItem} (s t : Stream) → GoesOn s t → ((x : Context) → Keeps (act x) (bct x)) → Keeps (streamed act s) (streamed bct t)
streamed_keeps s t h k = each_goes_on k size.Unasked 1 s.items s.ending t h

pub over_keeps : {act bct : AtItem} (nodes : List ℕ) → ((x : Context) → Keeps (act x) (bct x)) → Keeps (over act nodes) (over bct nodes)
over_keeps nodes k = each_keeps k _ 1 nodes Whole
