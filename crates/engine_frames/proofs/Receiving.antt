-- What becomes of the events of a body that was run apart.
use Rattle.std.proofs.Common.{◌≡◌, refl, sym, subst, ℕ, ◌+◌, List, [], ◌∷◌, arith, Result, Ok, Err}
use Rattle.doc_model.specs.declared.step.Step.{Step}
use Rattle.engine_core.specs.Holding.{Scene, Sound, there}
use Rattle.engine_core.specs.Moving.{Does, Moved}
use Rattle.engine_core.specs.Standing.{left_with, stand_of, state_in}
use Rattle.engine_core.specs.Weight.{purpose_weight, use_weight}
use Rattle.engine_core.specs.declared.state.Core.{Core}
use Rattle.engine_meaning.specs.Events.{outer_text}
use Rattle.engine_values.specs.Finding.{uses_so}
use Rattle.frame_meaning.proofs.Frames.{attribute_received, processing_received, comment_received}
use Rattle.frames.specs.declared.frame.Frame.TheVariants as f
use Rattle.frames.specs.declared.parts.Purpose.{Purpose}
use Rattle.frames.specs.declared.parts.Purpose.TheVariants as purpose
use Rattle.frames.specs.declared.parts.Use.{Use}
use Rattle.result_events.specs.Pushed.{pushed}
use Rattle.result_events.specs.declared.event.Name.{Name}
use Rattle.result_events.specs.declared.event.ResultEvent.{ResultEvent}
use Rattle.result_events.specs.declared.event.ResultEvent.TheVariants as event
use Rattle.xpath_laws.specs.Sound.{IsValue}
use Rattle.xpath_meaning.specs.declared.stop.EvalStop.{EvalStop}
use Rattle.xpath_meaning.specs.declared.stop.EvalStop.TheVariants.{NotYet, Fault, Memory}
use Rattle.xpath_values.specs.declared.value.Value.TheVariants.{Fragment}

module _ {S : Type 0} (z : Scene S) (steps : List Step) (m : Core S) (outer : List ResultEvent) where
  -- the machine, where the events outside go on
  abbrev pub outside : Core S
  outside = record m { output = outer }

  abbrev pub Held : Purpose → Type 0
  Held p = Sound z steps (f.Apart outer p ∷ m.frames) m

  abbrev pub Receives : Purpose → Core S → Type 0
  Receives p new = Moved z steps (left_with (f.Apart outer p ∷ m.frames) m) (purpose_weight p) m new

  pub attribute_goes : (p : Purpose) (name : Name) → p ≡ purpose.Attribute name → Held p → Receives p (record m { output = pushed outer (event.Attr name (outer_text m.output)) })
  attribute_goes p name is s =
      let h : Held (purpose.Attribute name) = subst Held is s in
      subst (λ p. Receives p (record m { output = pushed outer (event.Attr name (outer_text m.output)) })) (sym is) (record {
        sheet = refl;
        left = λ u x. attribute_received m.sheet.now u m.frames (stand_of m) (state_in m) outer name;
        lighter = omega arith;
        sound = record { root = h.root; sizes = h.sizes; globals = h.globals; locals = h.locals; context = h.context; holds = h.holds };
      })

  pub processing_goes : (p : Purpose) (target : List ℕ) → p ≡ purpose.Processing target → Held p
      → Receives p (record m { output = pushed outer (event.Instruction target (outer_text m.output)) })
  processing_goes p target is s =
      let h : Held (purpose.Processing target) = subst Held is s in
      subst (λ p. Receives p (record m { output = pushed outer (event.Instruction target (outer_text m.output)) })) (sym is) (record {
        sheet = refl;
        left = λ u x. processing_received m.sheet.now u m.frames (stand_of m) (state_in m) outer target;
        lighter = omega arith;
        sound = record { root = h.root; sizes = h.sizes; globals = h.globals; locals = h.locals; context = h.context; holds = h.holds };
      })

  pub comment_goes : (p : Purpose) → p ≡ purpose.Comment → Held p → Receives p (record m { output = pushed outer (event.Comment (outer_text m.output)) })
  comment_goes p is s =
      let h : Held purpose.Comment = subst Held is s in
      subst (λ p. Receives p (record m { output = pushed outer (event.Comment (outer_text m.output)) })) (sym is) (record {
        sheet = refl;
        left = λ u x. comment_received m.sheet.now u m.frames (stand_of m) (state_in m) outer;
        lighter = omega arith;
        sound = record { root = h.root; sizes = h.sizes; globals = h.globals; locals = h.locals; context = h.context; holds = h.holds };
      })

  -- the use of a value holds what its purpose held
  pub use_held : (p : Purpose) (u : Use) → p ≡ purpose.Value u → Held p → Sound z steps (f.Apart [] (purpose.Value u) ∷ m.frames) outside
  use_held p u is s =
      let h : Held (purpose.Value u) = subst Held is s in
      record { root = h.root; sizes = h.sizes; globals = h.globals; locals = h.locals; context = h.context; holds = h.holds }

  -- what the call that uses a value tells, where the events outside are these and the value is this fragment
  abbrev pub UsesSo : Use → Core S → Result (Unit {0}) EvalStop → List ResultEvent → List ResultEvent → Type 0
  UsesSo u new r out made =
      Sound z steps (f.Apart [] (purpose.Value u) ∷ m.frames) (record m { output = out }) → IsValue (there z steps) (Fragment made)
      → Does z steps (λ w. uses_so m.sheet.now w m.frames (stand_of m) (state_in (record m { output = out })) u (Fragment made)) (use_weight u + 1) (record m { output = out }) new r

  pub value_goes : (p : Purpose) (u : Use) (new : Core S) (r : Result (Unit {0}) EvalStop) (out made : List ResultEvent) → out ≡ outer → made ≡ m.output → p ≡ purpose.Value u → Held p
      → UsesSo u new r out made → Does z steps (left_with (f.Apart outer p ∷ m.frames) m) (purpose_weight p) m new r
  value_goes p u new r out made back taken is s d =
      subst (λ p. Does z steps (left_with (f.Apart outer p ∷ m.frames) m) (purpose_weight p) m new r) (sym is)
      (by r (subst (λ out. UsesSo u new r out m.output) back (subst (UsesSo u new r out) taken d) (use_held p u is s) tt))
    where
      by : (r : Result (Unit {0}) EvalStop) → Does z steps (λ w. uses_so m.sheet.now w m.frames (stand_of m) (state_in outside) u (Fragment m.output)) (use_weight u + 1) outside new r
          → Does z steps (left_with (f.Apart outer (purpose.Value u) ∷ m.frames) m) (use_weight u + 1) m new r
      by (Ok x) d = record { sheet = d.sheet; left = λ w y. d.left w y; lighter = d.lighter; sound = d.sound }
      by (Err (Fault k)) d = d
      by (Err (NotYet n)) d = absurd d
      by (Err Memory) d = tt
