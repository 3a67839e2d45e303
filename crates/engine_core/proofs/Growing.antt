-- What a machine holds it holds on every lawful growth of the steps.
use Rattle.std.proofs.Common.{ℕ, List, [], ◌∷◌, ◌++◌}
use Rattle.doc_model.specs.Lawful.{Grows, IsLawful}
use Rattle.doc_model.specs.declared.step.Step.{Step}
use Rattle.engine_core.specs.Holding.{AllGiven, Flowing, FrameHolds, Holds, IsWork, PurposeHolds, Scene, Sound, UseHolds, there, value_of}
use Rattle.engine_core.specs.declared.state.Core.{Core}
use Rattle.engine_questions.proofs.Staying.{there_stays}
use Rattle.engine_questions.specs.Walks.{GoesOnSo, Walk}
use Rattle.frame_meaning.specs.Stand.{Stand, at_place}
use Rattle.frames.specs.Depth.{depth}
use Rattle.frames.specs.declared.frame.Frame.{Frame}
use Rattle.frames.specs.declared.frame.Frame.TheVariants as f
use Rattle.frames.specs.declared.parts.Handed.{Handed}
use Rattle.frames.specs.declared.parts.Purpose.{Purpose}
use Rattle.frames.specs.declared.parts.Purpose.TheVariants as purpose
use Rattle.frames.specs.declared.parts.Use.{Use}
use Rattle.frames.specs.declared.parts.Use.TheVariants as use_of
use Rattle.frames.specs.declared.parts.Work.{Work}
use Rattle.frames.specs.declared.parts.Work.TheVariants as work
use Rattle.xpath_laws.specs.Sound.{AllValues, Each, IsContext, IsValue, Rows}
use Rattle.xpath_meaning.specs.declared.context.Context.{Context}
use Rattle.xpath_values.specs.declared.value.Value.{Value}
use Rattle.xpath_values.specs.declared.value.Value.TheVariants.{Nodes, Atom, Fragment}

pub each_later : {A : Type 0} {P Q : A → Type 0} → ((x : A) → P x → Q x) → (xs : List A) → Each P xs → Each Q xs
each_later k [] h = tt
each_later k (x ∷ xs) h = (k x h.0, each_later k xs h.1)

module _ {is later : Rows} (k : (n : ℕ) → is n → later n) where
  pub value_later : (v : Value) → IsValue is v → IsValue later v
  value_later (Nodes nodes) h = (h.0, each_later k nodes h.1)
  value_later (Atom atom) h = tt
  value_later (Fragment events) h = tt

  pub values_later : (values : List Value) → AllValues is values → AllValues later values
  values_later values h = each_later value_later values h

  pub context_later : (c : Context) → IsContext is c → IsContext later c
  context_later c h = record { node = k c.node h.node; current = k c.current h.current }

  pub given_later : (given : List Handed) → AllGiven is given → AllGiven later given
  given_later given h = each_later (λ handed. value_later (value_of handed)) given h

  pub work_later : (w : Work) → IsWork is w → IsWork later w
  work_later (work.ByMode mode given) h = given_later given h
  work_later (work.ByBody body) h = tt

module _ {S : Type 0} (z : Scene S) (on : (stream : S) → GoesOnSo (z.follows stream)) (before later : List Step) (grows : Grows before later) (lawful : IsLawful later) where
  pub stays : (n : ℕ) → there z before n → there z later n
  stays n = there_stays z.rules before later n grows

  flowing_later : (k : Walk) (values : List Value) {others behind : List S → Type 0} → ((streams : List S) → others streams → behind streams)
      → (streams : List S) → Flowing z before k values others streams → Flowing z later k values behind streams
  flowing_later k values next [] h = absurd h
  flowing_later k values next (stream ∷ streams) h = (h.0, on stream z.lookups values z.rules before later h.1 grows lawful, next streams h.2)

  use_later : {below behind : Stand → List S → Type 0} → ((h : Stand) (streams : List S) → below h streams → behind h streams)
      → (h : Stand) (streams : List S) (deep : ℕ) (u : Use) → UseHolds (there z before) deep below h streams u → UseHolds (there z later) deep behind h streams u
  use_later next h streams deep use_of.Local k = λ value. next (at_place h h.place.context (h.place.locals ++ value ∷ [])) streams (k value)
  use_later next h streams deep (use_of.Handed name p) k = (given_later stays p.given k.0, next h streams k.1)
  use_later next h streams deep (use_of.Declared d) k = (given_later stays d.given k.0, next (at_place h h.place.context []) streams k.1)
  use_later next h streams deep (use_of.Global at left) k = (k.0, λ globals. next _ streams (k.1 globals))

  purpose_later : {below behind : Stand → List S → Type 0} → ((h : Stand) (streams : List S) → below h streams → behind h streams)
      → (h : Stand) (streams : List S) (deep : ℕ) (p : Purpose) → PurposeHolds (there z before) deep below h streams p → PurposeHolds (there z later) deep behind h streams p
  purpose_later next h streams deep (purpose.Value u) k = use_later next h streams deep u k
  purpose_later next h streams deep (purpose.Attribute name) k = next h streams k
  purpose_later next h streams deep (purpose.Processing target) k = next h streams k
  purpose_later next h streams deep purpose.Comment k = next h streams k
  purpose_later next h streams deep (purpose.Message terminate) k = next h streams k

  frame_later : {below behind : Stand → List S → Type 0} → ((h : Stand) (streams : List S) → below h streams → behind h streams)
      → (deep : ℕ) (frame : Frame) (h : Stand) (streams : List S) → FrameHolds z before deep below frame h streams → FrameHolds z later deep behind frame h streams
  frame_later next deep (f.Template locals context) h streams k = (values_later stays locals k.0, context_later stays context k.1, next _ streams k.2)
  frame_later next deep (f.Body rest begun kept) h streams k = (k.0, next _ streams k.1)
  frame_later next deep f.Close h streams k = next h streams k
  frame_later next deep (f.Literal attributes body) h streams k = next h streams k
  frame_later next deep (f.Whens whens otherwise) h streams k = next h streams k
  frame_later next deep (f.Params p) h streams k = (given_later stays p.given k.0, next h streams k.1)
  frame_later next deep (f.Choose mode given) h streams k = (given_later stays given k.0, next h streams k.1)
  frame_later next deep (f.Declared d) h streams k = (given_later stays d.given k.0, next _ streams k.1)
  frame_later next deep (f.Stream select taken w context) h streams k =
      (work_later stays w k.0, context_later stays context k.1, flowing_later _ _ (λ others. next (at_place h context h.place.locals) others) streams k.2)
  frame_later next deep (f.Items nodes at w context) h streams k = (each_later stays nodes k.0, work_later stays w k.1, context_later stays context k.2, next _ streams k.3)
  frame_later next deep (f.Children mode) h streams k = next h streams k
  frame_later next deep (f.Keys nodes rows sorts w context) h streams k =
      (k.0, each_later stays nodes k.1, work_later stays w k.2, context_later stays context k.3, next _ streams k.4)
  frame_later next deep (f.Copies nodes at) h streams k = (each_later stays nodes k.0, next h streams k.1)
  frame_later next deep (f.Apart outer p) h streams k = purpose_later next h streams deep p k
  frame_later next deep (f.Globals left begun) h streams k = (k.0, λ globals. next _ streams (k.1 globals))

  pub holds_later : (frames : List Frame) (h : Stand) (streams : List S) → Holds z before frames h streams → Holds z later frames h streams
  holds_later [] h streams k = k
  holds_later (frame ∷ frames) h streams k = frame_later (holds_later frames) (depth frames) frame h streams k

  pub sound_later : (frames : List Frame) (m : Core S) → Sound z before frames m → Sound z later frames m
  sound_later frames m k = record {
    root = stays 0 k.root;
    sizes = k.sizes;
    globals = values_later stays m.globals k.globals;
    locals = values_later stays m.locals k.locals;
    context = context_later stays m.context k.context;
    holds = holds_later frames _ _ k.holds;
  }
