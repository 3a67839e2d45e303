-- Runs that wait only for rows that are waited for.
use Rattle.std.proofs.Common.{ℕ, zero, suc, List, [], ◌∷◌, length}
use Rattle.std.specs.Prelude.{⊤}
use Rattle.doc_model.specs.Answers as answer
use Rattle.fault_kinds.specs.declared.fault.FaultKind.{FaultKind}
use Rattle.result_events.specs.declared.event.ResultEvent.{ResultEvent}
use Rattle.xpath_meaning.specs.declared.context.Context.{Context}
use Rattle.xpath_meaning.specs.declared.context.Size.{Size}
use Rattle.xpath_meaning.specs.declared.context.Size.TheVariants as size
use Rattle.xpath_meaning.specs.Outcome.{Outcome}
use Rattle.xpath_meaning.specs.Streams.{Stream, Ending, Whole, Fault, Cut}
use Rattle.xpath_laws.specs.Sound.{Rows, Tells, Anything, Each, IsContext, EndsAt, Flows}
use Rattle.engine_meaning.specs.Items.{AtItem, ends, each, streamed, over}
use Rattle.engine_meaning.specs.Places.{at_item}
use Rattle.engine_meaning.specs.Runs.{State, Ran, Done, Faulted, Waits, Run, after, ◌>>=◌, ◌>>◌, pure, fail, ask, spend_from, spend, emit, emit_all, tell, with_events, back_to, apart}

-- what is done has this property, and a row that must be shut first is one that is waited for
abbrev pub Leaves : Rows → {A : Type 0} → (A → Type 0) → Ran A → Type 0
Leaves O V (Done x s) = V x
Leaves O V (Faulted fault s) = ⊤
Leaves O V (Waits m s) = O m

pub record Safe (O : Rows) {A : Type 0} (V : A → Type 0) (r : Run A) : Type 0 where
  pub runs : (s : State) → Leaves O V (r s)

module _ (O : Rows) where
  after_leaves : {A B : Type 0} (V : A → Type 0) (U : B → Type 0) (o : Ran A) (f : A → Run B) → Leaves O V o → ((x : A) → V x → Safe O U (f x)) → Leaves O U (after o f)
  after_leaves V U (Done x s) f v h = (h x v).runs s
  after_leaves V U (Faulted e s) f v h = tt
  after_leaves V U (Waits m s) f v h = v

  pub bind_safe : {A B : Type 0} (V : A → Type 0) (U : B → Type 0) (r : Run A) (f : A → Run B) → Safe O V r → ((x : A) → V x → Safe O U (f x)) → Safe O U (r >>= f)
  bind_safe V U r f k h = record { runs = λ s. after_leaves V U (r s) f (k.runs s) h }

  pub then_safe : {A B : Type 0} (V : A → Type 0) (U : B → Type 0) (r : Run A) (q : Run B) → Safe O V r → Safe O U q → Safe O U (r >> q)
  then_safe V U r q k h = bind_safe V U r (λ _. q) k (λ x v. h)

  pub pure_safe : {A : Type 0} (V : A → Type 0) (x : A) → V x → Safe O V (pure x)
  pure_safe V x v = record { runs = λ s. v }

  pub fail_safe : {A : Type 0} (V : A → Type 0) (e : FaultKind) → Safe O V (fail e)
  fail_safe V e = record { runs = λ s. tt }

  asked : {A : Type 0} (V : A → Type 0) (o : Outcome A) (s : State) → Tells O V o → Leaves O V (ask o s)
  asked V (answer.Known x) s t = t
  asked V (answer.Fault e) s t = tt
  asked V (answer.Open m) s t = t

  pub ask_safe : {A : Type 0} (V : A → Type 0) (o : Outcome A) → Tells O V o → Safe O V (ask o)
  ask_safe V o t = record { runs = λ s. asked V o s t }

  spent : (n : ℕ) (events : List ResultEvent) (messages : List (List ℕ)) → Leaves O Anything (spend_from n events messages)
  spent zero events messages = tt
  spent (suc n) events messages = tt

  pub spend_safe : Safe O Anything spend
  spend_safe = record { runs = λ s. spent s.budget s.events s.messages }

  pub emit_safe : (e : ResultEvent) → Safe O Anything (emit e)
  unfolding emit
  emit_safe e = record { runs = λ s. tt }

  pub emit_all_safe : (events : List ResultEvent) → Safe O Anything (emit_all events)
  emit_all_safe events = record { runs = λ s. tt }

  pub tell_safe : (line : List ℕ) → Safe O Anything (tell line)
  tell_safe line = record { runs = λ s. tt }

  back_leaves : {A : Type 0} (V : A → Type 0) (outer : List ResultEvent) (o : Ran A) → Leaves O V o → Leaves O Anything (back_to outer o)
  back_leaves V outer (Done x s) v = tt
  back_leaves V outer (Faulted e s) v = tt
  back_leaves V outer (Waits m s) v = v

  pub apart_safe : {A : Type 0} (V : A → Type 0) (r : Run A) → Safe O V r → Safe O Anything (apart r)
  apart_safe V r k = record { runs = λ s. back_leaves V s.events (r (with_events s [])) (k.runs (with_events s [])) }

  ends_safe : (ending : Ending) → EndsAt O ending → Safe O Anything (ends ending)
  ends_safe Whole e = pure_safe Anything tt tt
  ends_safe (Fault fault) e = fail_safe Anything fault
  ends_safe (Cut m) e = record { runs = λ s. e }

  module _ (T : Rows) where
    -- what is done at an item that is there
    abbrev pub ActsSafely : AtItem → Type 0
    ActsSafely act = (y : Context) → IsContext T y → Safe O Anything (act y)

    each_safe : (act : AtItem) → ActsSafely act → (z : Size) (at : ℕ) (ns : List ℕ) (ending : Ending) → Each T ns → EndsAt O ending → Safe O Anything (each act z at ns ending)
    each_safe act k z at [] ending a e = ends_safe ending e
    each_safe act k z at (n ∷ ns) ending a e =
        then_safe Anything Anything (act (at_item z at n)) (each act z (suc at) ns ending) (k (at_item z at n) (record { node = a.0; current = a.0 })) (each_safe act k z (suc at) ns ending a.1 e)

    pub streamed_safe : (act : AtItem) → ActsSafely act → (s : Stream) → Flows T O s → Safe O Anything (streamed act s)
    streamed_safe act k s f = each_safe act k size.Unasked 1 s.items s.ending f.items f.ending

    pub over_safe : (act : AtItem) → ActsSafely act → (nodes : List ℕ) → Each T nodes → Safe O Anything (over act nodes)
    over_safe act k nodes a = each_safe act k (size.Known (length nodes)) 1 nodes Whole a tt
