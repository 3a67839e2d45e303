-- Runs that keep their answers, where the events outside of the bodies that are run apart are shown.
use Rattle.std.proofs.Common.{◌≡◌, refl, sym, ap, subst, List, Option, Some, None}
use Rattle.engine_laws.proofs.Keeping.{Keeps, begins_trans, with_begins}
use Rattle.engine_laws.specs.Growing.{Begins, state_of, Later}
use Rattle.engine_meaning.specs.Runs.{State, Ran, Done, Faulted, Waits, Run, after, with_events}
use Rattle.frame_meaning.specs.Apart.{surface, under}
use Rattle.frames.specs.Apart.{innermost}
use Rattle.result_events.specs.declared.event.ResultEvent.{ResultEvent}

-- as Keeps, where b stands outside before the run, and d behind it
pub record Lasts {A : Type 0} (b d : Option (List ResultEvent)) (r q : Run A) : Type 0 where
  pub later : (s : State) → Later (r s) (q s)
  pub adds : (s : State) → Begins (surface b s) (surface d (state_of (q s)))

pub surface_begins : (b : Option (List ResultEvent)) (s t : State) → Begins s t → Begins (surface b s) (surface b t)
surface_begins None s t h = h
surface_begins (Some events) s t h = with_begins s t events h

pub keeps_last : {A : Type 0} (b : Option (List ResultEvent)) {r q : Run A} → Keeps r q → Lasts b b r q
keeps_last b {r} {q} k = record { later = k.later; adds = λ s. surface_begins b s (state_of (q s)) (k.adds s) }

-- one more body apart hides its events
pub surface_out : (b : Option (List ResultEvent)) (outer : List ResultEvent) (s : State) → surface (innermost b outer) s ≡ surface b (with_events s outer)
surface_out None outer s = refl
surface_out (Some events) outer s = refl

pub surface_twice : (b : Option (List ResultEvent)) (s : State) → surface b (surface b s) ≡ surface b s
surface_twice None s = refl
surface_twice (Some events) s = refl

under_adds : {A B : Type 0} (b d : Option (List ResultEvent)) (s : State) (p : Ran A) (g : A → Run B) → ((x : A) (t : State) → Begins (surface d t) (state_of (g x t)))
    → Begins (surface b s) (surface d (state_of p)) → Begins (surface b s) (state_of (after (under d p) g))
under_adds b d s (Done x t) g k h = begins_trans h (k x t)
under_adds b d s (Faulted e t) g k h = h
under_adds b d s (Waits m t) g k h = h

waits_begin : {A B : Type 0} (d : Option (List ResultEvent)) (t : State) (p : Ran A) (g : A → Run B) → ((x : A) (u : State) → Begins (surface d u) (state_of (g x u)))
    → Begins t (state_of p) → Begins (surface d t) (state_of (after (under d p) g))
waits_begin d t p g k h = under_adds d d t p g k (surface_begins d t (state_of p) h)

under_later : {A B : Type 0} (d : Option (List ResultEvent)) (o p : Ran A) (f g : A → Run B) → Later o p → ((x : A) → Lasts d None (f x) (g x)) → Later (after (under d o) f) (after (under d p) g)
under_later d (Done x t) p f g l k = subst (λ w. Later (f x t) (after (under d w) g)) (sym l) ((k x).later t)
under_later d (Faulted e t) p f g l k = ap (λ w. after (under d w) g) l
under_later d (Waits m t) p f g l k = waits_begin d t p g (λ x. (k x).adds) l

-- what the top does, and then what is below it
pub under_lasts : {A B : Type 0} (b d : Option (List ResultEvent)) {r q : Run A} {f g : A → Run B} → Lasts b d r q → ((x : A) → Lasts d None (f x) (g x))
    → Lasts b None (λ s. after (under d (r s)) f) (λ s. after (under d (q s)) g)
under_lasts b d {r} {q} {f} {g} k h = record {
  later = λ s. under_later d (r s) (q s) f g (k.later s) h;
  adds = λ s. under_adds b d s (q s) g (λ x. (h x).adds) (k.adds s);
}

-- a run in two parts
pub under_assoc : {A B C : Type 0} (b : Option (List ResultEvent)) (o : Ran A) (k : A → Run B) (g : B → Run C) → after (under b (after o k)) g ≡ after (under b o) (λ x t. after (under b (k x t)) g)
under_assoc b (Done x t) k g = refl
under_assoc b (Faulted e t) k g = refl
under_assoc b (Waits m t) k g = refl

pub after_assoc : {A B C : Type 0} (o : Ran A) (k : A → Run B) (g : B → Run C) → after (after o k) g ≡ after o (λ x t. after (k x t) g)
after_assoc (Done x t) k g = refl
after_assoc (Faulted e t) k g = refl
after_assoc (Waits m t) k g = refl

-- two runs that go on in the same way behind one
pub after_same : {A B : Type 0} (o : Ran A) (k g : A → Run B) → ((x : A) (t : State) → k x t ≡ g x t) → after o k ≡ after o g
after_same (Done x t) k g h = h x t
after_same (Faulted e t) k g h = refl
after_same (Waits m t) k g h = refl
