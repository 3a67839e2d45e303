-- How the items of a select that are taken one by one go on.
use Rattle.std.proofs.Common.{◌≡◌, refl, sym, ap, ◌∙◌, subst, ℕ, suc, ◌+◌, ◌<◌, List, [], ◌∷◌, ◌++◌, length, reverse, arith, Option, Some, None, Ok, Err}
use Rattle.std.proofs.lemmas.List.{reverse-append}
use Rattle.std.specs.Borrow.{Bor}
use Rattle.doc_model.specs.Answers as answer
use Rattle.doc_model.specs.declared.step.Step.{Step}
use Rattle.doc_model.specs.declared.strip_rule.StripRule.{StripRule}
use Rattle.engine_core.proofs.Asking.{Hears}
use Rattle.engine_core.proofs.Moves.{Hangs, put_back}
use Rattle.engine_core.specs.Holding.{Holds, IsWork, Scene, Sound, there, world_at}
use Rattle.engine_core.specs.Moving.{Goes, Moved}
use Rattle.engine_core.specs.Standing.{left_with, stand_of, state_in}
use Rattle.engine_core.specs.Weight.{weight_of}
use Rattle.engine_core.specs.declared.state.Core.{Core}
use Rattle.engine_frames.proofs.Moving.{first_holds, first_is, first_weighs}
use Rattle.engine_frames.specs.Items.{first_frame}
use Rattle.engine_meaning.specs.Places.{World, at_item}
use Rattle.engine_questions.specs.Asking.{UnlessMemory}
use Rattle.engine_questions.specs.Walks.{Walk, next_of, select_of, walk, walked}
use Rattle.frame_meaning.proofs.Items.{next_item, next_none, next_fault, next_open, next_stays, stream_ends, stream_fails, stream_goes, stream_waits, whole_stays}
use Rattle.frame_meaning.specs.Stand.{at_place}
use Rattle.frames.specs.declared.frame.Frame.{Frame}
use Rattle.frames.specs.declared.frame.Frame.TheVariants as f
use Rattle.frames.specs.declared.parts.Work.{Work}
use Rattle.xpath_laws.specs.Sound.{IsContext, IsThere}
use Rattle.xpath_meaning.specs.Outcome.{Outcome}
use Rattle.xpath_meaning.specs.declared.context.Context.{Context}
use Rattle.xpath_meaning.specs.declared.context.Size.TheVariants as size
use Rattle.xpath_meaning.specs.declared.stop.EvalStop.{EvalStop}
use Rattle.xpath_meaning.specs.declared.stop.EvalStop.TheVariants.{NotYet, Fault, Memory}
use Rattle.xpath_syntax.specs.declared.expression.Expr.{Expr}
use Rattle.xpath_values.specs.declared.value.Value.{Value}

module _ {S : Type 0} (z : Scene S) (m : Core S) (select : Option (Bor Expr)) (taken : ℕ) (k : Work) (context : Context) where
  abbrev pub taking : Frame
  taking = f.Stream select taken k context

  abbrev pub over : Walk
  over = walk (select_of select) context taken

  abbrev pub values : List Value
  values = m.globals ++ m.locals

  abbrev pub Held : List Step → Type 0
  Held steps = Sound z steps (taking ∷ m.frames) m

  -- the innermost stream is that of the frame
  pub record Innermost (steps : List Step) (others : List S) (stream : S) : Type 0 where
    pub work : IsWork (there z steps) k
    pub place : IsContext (there z steps) context
    pub walks : z.walks stream ≡ over
    pub follows : z.follows stream z.lookups values z.rules steps
    pub below : Holds z steps m.frames (at_place (stand_of m) context m.locals) (reverse others)

  pub innermost : (steps : List Step) (others : List S) (stream : S) → m.streams ≡ others ++ stream ∷ [] → Held steps → Innermost steps others stream
  innermost steps others stream is s =
      let h : Holds z steps (taking ∷ m.frames) (stand_of m) (stream ∷ reverse others) =
      subst (Holds z steps (taking ∷ m.frames) (stand_of m)) (ap reverse is ∙ reverse-append others (stream ∷ [])) s.holds in
      record { work = h.0; place = h.1; walks = h.2.0; follows = h.2.1; below = h.2.2 }

  abbrev pub next_at : World → Outcome (Option ℕ)
  next_at u = next_of over values u

  -- what is asked of a stream
  abbrev pub asked_of : S → World → Outcome (Option ℕ)
  asked_of stream u = next_of (z.walks stream) values u

  pub stream_over : (steps : List Step) (others : List S) (stream : S) → m.streams ≡ others ++ stream ∷ [] → Held steps → asked_of stream (world_at z steps) ≡ answer.Known None
      → Moved z steps (left_with (taking ∷ m.frames) m) (weight_of taking) m (record m { context = context; streams = others })
  stream_over steps others stream is s hears =
      let i : Innermost steps others stream = innermost steps others stream is s in
      let none = next_none _ _ (subst (λ w. next_of w values (world_at z steps) ≡ answer.Known None) i.walks hears) in
      record {
        sheet = refl;
        left = λ u x. let on = whole_stays m.sheet.now (world_at z steps) u x (select_of select) values context taken none.0 none.1 in
            stream_ends m.sheet.now u m.frames (stand_of m) (state_in m) select taken k context on.0 on.1;
        lighter = omega arith;
        sound = record { root = s.root; sizes = s.sizes; globals = s.globals; locals = s.locals; context = i.place; holds = i.below };
      }

  pub stream_on : (steps : List Step) (others : List S) (stream behind : S) (n : ℕ) → m.streams ≡ others ++ stream ∷ [] → Held steps → asked_of stream (world_at z steps) ≡ answer.Known (Some n)
      → (rules : List StripRule) → rules ≡ z.rules → IsThere rules steps n → (z.walks stream).taken < 4294967296 → z.walks behind ≡ walked (z.walks stream) (Ok (Some n))
      → z.follows behind z.lookups values rules steps
      → Moved z steps (left_with (taking ∷ m.frames) m) (weight_of taking) m
      (record m { context = at_item size.Unasked (taken + 1) n; streams = others ++ behind ∷ []; frames = first_frame k (length m.locals) ∷ f.Stream select (taken + 1) k context ∷ m.frames })
  stream_on steps others stream behind n is s hears rules same here few moved follows =
      let one : taken + 1 ≡ suc taken = omega arith in
      let i : Innermost steps others stream = innermost steps others stream is s in
      let item = next_item _ _ n (subst (λ w. next_of w values (world_at z steps) ≡ answer.Known (Some n)) i.walks hears) in
      let here : there z steps n = subst (λ rules. IsThere rules steps n) same here in
      let follows : z.follows behind z.lookups values z.rules steps = subst (λ rules. z.follows behind z.lookups values rules steps) same follows in
      let few : taken < 4294967296 = subst (λ (w : Walk). w.taken < 4294967296) i.walks few in
      let walks : z.walks behind ≡ walk (select_of select) context (suc taken) = moved ∙ ap (λ w. walked w (Ok (Some n))) i.walks in
      let light : weight_of (first_frame k (length m.locals)) ≡ 1 = first_weighs k (length m.locals) in
      let below : Holds z steps (f.Stream select (suc taken) k context ∷ m.frames) (at_place (stand_of m) (at_item size.Unasked (suc taken) n) m.locals) (reverse (others ++ behind ∷ [])) =
      subst (Holds z steps (f.Stream select (suc taken) k context ∷ m.frames) (at_place (stand_of m) (at_item size.Unasked (suc taken) n) m.locals))
      (sym (reverse-append others (behind ∷ []))) (i.work, i.place, (walks, follows, i.below)) in
      rw one (record {
        sheet = refl;
        left = λ u x. let on = next_stays m.sheet.now (world_at z steps) u x (select_of select) values context taken n item.0 item.1 in
            stream_goes m.sheet.now u m.frames (stand_of m) (state_in m) select taken k context n on.0 on.1 on.2
            ∙ rw (first_is k (length m.locals)) refl;
        lighter = omega (arith, few, light);
        sound = record {
          root = s.root;
          sizes = s.sizes;
          globals = s.globals;
          locals = s.locals;
          context = record { node = here; current = here };
          holds = first_holds z steps (f.Stream select (suc taken) k context ∷ m.frames) (at_place (stand_of m) (at_item size.Unasked (suc taken) n) m.locals) _ k i.work below;
        };
      })

  stream_hangs : (streams : List S) → Hangs next_at (left_with (taking ∷ m.frames) m) (record m { streams = streams; frames = taking ∷ m.frames })
  stream_hangs streams = record {
    fails = λ u e has. let none = next_fault _ _ e has in stream_fails m.sheet.now u m.frames (stand_of m) (state_in m) select taken k context e none.0 none.1;
    waits = λ u n has. let none = next_open _ _ n has in stream_waits m.sheet.now u m.frames (stand_of m) (state_in m) select taken k context n none.0 none.1;
  }

  abbrev pub BackSo : List Step → List Step → EvalStop → List S → List Frame → Type 0
  BackSo before later e streams frames = Goes {A = Unit {0}} z before later (left_with (taking ∷ m.frames) m) (weight_of taking) m (record m { streams = streams; frames = frames }) (Err e)

  pub stream_back : (before later : List Step) (others : List S) (stream behind : S) (e : EvalStop) (streams : List S) (frames : List Frame) → m.streams ≡ others ++ stream ∷ []
      → streams ≡ others ++ behind ∷ [] → frames ≡ taking ∷ m.frames → Held later → Hears {A = Option ℕ} z before later (asked_of stream) (Err e)
      → UnlessMemory {A = Option ℕ} (z.walks behind ≡ z.walks stream) (Err e) → (rules : List StripRule) → rules ≡ z.rules
      → UnlessMemory {A = Option ℕ} (z.follows behind z.lookups values rules later) (Err e)
      → BackSo before later e streams frames
  stream_back before later others stream behind e streams frames is back on_top s hears walks rules same follows =
      subst (BackSo before later e streams) (sym on_top) (subst (λ streams. BackSo before later e streams (taking ∷ m.frames)) (sym back) (by e hears walks
      (subst (λ rules. UnlessMemory {A = Option ℕ} (z.follows behind z.lookups values rules later) (Err e)) same follows)))
    where
      i : Innermost later others stream
      i = innermost later others stream is s

      stopped : (e : EvalStop) → Hears {A = Option ℕ} z before later (asked_of stream) (Err e) → z.walks behind ≡ z.walks stream → z.follows behind z.lookups values z.rules later
          → BackSo before later e (others ++ behind ∷ []) (taking ∷ m.frames)
      stopped e hears walks follows =
          put_back (Unit {0}) z before later next_at (left_with (taking ∷ m.frames) m) (weight_of taking) m (record m { streams = others ++ behind ∷ []; frames = taking ∷ m.frames }) e
          refl (λ u. refl)
          (record {
            root = s.root;
            sizes = s.sizes;
            globals = s.globals;
            locals = s.locals;
            context = s.context;
            holds = subst (Holds z later (taking ∷ m.frames) (stand_of m)) (sym (reverse-append others (behind ∷ []))) (i.work, i.place, (walks ∙ i.walks, follows, i.below));
          })
          (stream_hangs (others ++ behind ∷ [])) (subst (λ w. Hears {A = Option ℕ} z before later (next_of w values) (Err e)) i.walks hears)

      by : (e : EvalStop) → Hears {A = Option ℕ} z before later (asked_of stream) (Err e) → UnlessMemory {A = Option ℕ} (z.walks behind ≡ z.walks stream) (Err e)
          → UnlessMemory {A = Option ℕ} (z.follows behind z.lookups values z.rules later) (Err e) → BackSo before later e (others ++ behind ∷ []) (taking ∷ m.frames)
      by (Fault fault) hears walks follows = stopped (Fault fault) hears walks follows
      by (NotYet n) hears walks follows = stopped (NotYet n) hears walks follows
      by Memory hears walks follows = tt
