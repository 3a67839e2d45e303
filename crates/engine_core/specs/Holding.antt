-- What a machine holds stands for the steps that were seen: its nodes are there, and its streams go on from where they stand.
use Rattle.std.specs.Prelude.{◌≡◌, ℕ, ◌≤◌, List, [], ◌∷◌, ◌++◌, length, reverse, take, ⊤}
use Rattle.doc_model.specs.declared.step.Step.{Step}
use Rattle.doc_model.specs.declared.strip_rule.StripRule.{StripRule}
use Rattle.doc_model.specs.View.{Seen}
use Rattle.engine_core.specs.Standing.{stand_of}
use Rattle.engine_core.specs.declared.state.Core.{Core}
use Rattle.engine_meaning.specs.Places.{World}
use Rattle.engine_meaning.specs.Sizes.{asks_size}
use Rattle.engine_questions.specs.Asking.{Asked, world_by}
use Rattle.engine_questions.specs.Walks.{Follows, Walk, select_of, walk}
use Rattle.frame_meaning.specs.Stand.{Stand, at_place}
use Rattle.frame_meaning.specs.Uses.{at_root}
use Rattle.frames.specs.Depth.{depth}
use Rattle.frames.specs.declared.frame.Frame.{Frame}
use Rattle.frames.specs.declared.frame.Frame.TheVariants as f
use Rattle.frames.specs.declared.parts.Handed.{Handed}
use Rattle.frames.specs.declared.parts.Purpose.{Purpose}
use Rattle.frames.specs.declared.parts.Purpose.TheVariants as purpose
use Rattle.frames.specs.declared.parts.Use.{Use}
use Rattle.frames.specs.declared.parts.Use.TheVariants as use_of
use Rattle.frames.specs.declared.parts.Work.{Work}
use Rattle.frames.specs.declared.parts.Work.TheVariants as work
use Rattle.key_sources.specs.Going.{Fits, Lookups, Stands}
use Rattle.xpath_laws.specs.Sound.{AllValues, Each, IsContext, IsThere, IsValue, Rows}
use Rattle.xpath_values.specs.declared.value.Value.{Value}

-- how streams stand in a document, by what nodes can be found, and the strip rules
pub record Scene (S : Type 0) : Type 1 where
  pub walks : S → Walk
  pub follows : S → Follows
  pub lookups : Lookups
  pub rules : List StripRule

abbrev pub scene : {S : Type 0} → (S → Walk) → (S → Follows) → Lookups → List StripRule → Scene S
scene walks follows lookups rules = record { walks = walks; follows = follows; lookups = lookups; rules = rules }

-- as a document is asked that has been seen so
abbrev pub scene_of : {S M N : Type 0} → (S → Walk) → (S → Follows) → Asked N → Seen M → Scene S
scene_of walks follows asked seen = scene walks follows asked.lookups seen.rules

-- what is seen of these steps
abbrev pub world_at : {S : Type 0} → Scene S → List Step → World
world_at z steps = world_by z.lookups z.rules steps

-- a node is there and visible
abbrev pub there : {S : Type 0} → Scene S → List Step → Rows
there z steps = IsThere z.rules steps

abbrev pub value_of : Handed → Value
value_of handed = handed.value

-- values that are handed on
abbrev pub AllGiven : Rows → List Handed → Type 0
AllGiven is given = Each (λ handed. IsValue is (value_of handed)) given

abbrev pub IsWork : Rows → Work → Type 0
IsWork is (work.ByMode mode given) = AllGiven is given
IsWork is (work.ByBody body) = ⊤

-- the stream of a frame is the innermost, and behind it come the others
abbrev pub Flowing : {S : Type 0} → Scene S → List Step → Walk → List Value → (List S → Type 0) → List S → Type 0
Flowing z steps k values others [] = ⊥
Flowing z steps k values others (stream ∷ streams) = (z.walks stream ≡ k) × z.follows stream z.lookups values z.rules steps × others streams

-- what becomes of a value leaves what its frames stand on, where so many templates are open; none is where it is that of a global
abbrev pub UseHolds : {S : Type 0} → Rows → ℕ → (Stand → List S → Type 0) → Stand → List S → Use → Type 0
UseHolds is deep below h streams use_of.Local = (value : Value) → below (at_place h h.place.context (h.place.locals ++ value ∷ [])) streams
UseHolds is deep below h streams (use_of.Handed name p) = AllGiven is p.given × below h streams
UseHolds is deep below h streams (use_of.Declared d) = AllGiven is d.given × below (at_place h h.place.context []) streams
UseHolds is deep below h streams (use_of.Global at left) = (deep ≡ 0) × ((globals : List Value) → below (at_root globals) streams)

abbrev pub PurposeHolds : {S : Type 0} → Rows → ℕ → (Stand → List S → Type 0) → Stand → List S → Purpose → Type 0
PurposeHolds is deep below h streams (purpose.Value u) = UseHolds is deep below h streams u
PurposeHolds is deep below h streams (purpose.Attribute name) = below h streams
PurposeHolds is deep below h streams (purpose.Processing target) = below h streams
PurposeHolds is deep below h streams purpose.Comment = below h streams
PurposeHolds is deep below h streams (purpose.Message terminate) = below h streams

-- what a frame holds, where so many templates are open below, and what is below holds so from a place and the streams that are left, the innermost first
abbrev pub FrameHolds : {S : Type 0} → Scene S → List Step → ℕ → (Stand → List S → Type 0) → Frame → Stand → List S → Type 0
FrameHolds z steps deep below (f.Template locals context) h streams = AllValues (there z steps) locals × IsContext (there z steps) context × below (at_place h context locals) streams
FrameHolds z steps deep below (f.Body rest begun kept) h streams = (kept ≤ length h.place.locals) × below (at_place h h.place.context (take kept h.place.locals)) streams
FrameHolds z steps deep below f.Close h streams = below h streams
FrameHolds z steps deep below (f.Literal attributes body) h streams = below h streams
FrameHolds z steps deep below (f.Whens whens otherwise) h streams = below h streams
FrameHolds z steps deep below (f.Params p) h streams = AllGiven (there z steps) p.given × below h streams
FrameHolds z steps deep below (f.Choose mode given) h streams = AllGiven (there z steps) given × below h streams
FrameHolds z steps deep below (f.Declared d) h streams = AllGiven (there z steps) d.given × below (at_place h h.place.context []) streams
FrameHolds z steps deep below (f.Stream select taken k context) h streams =
    IsWork (there z steps) k × IsContext (there z steps) context
    × Flowing z steps (walk (select_of select) context taken) (h.globals ++ h.place.locals) (below (at_place h context h.place.locals)) streams
FrameHolds z steps deep below (f.Items nodes next k context) h streams =
    Each (there z steps) nodes × IsWork (there z steps) k × IsContext (there z steps) context × below (at_place h context h.place.locals) streams
FrameHolds z steps deep below (f.Children mode) h streams = below h streams
FrameHolds z steps deep below (f.Keys nodes rows sorts k context) h streams =
    (length rows ≤ length nodes) × Each (there z steps) nodes × IsWork (there z steps) k × IsContext (there z steps) context × below (at_place h context h.place.locals) streams
FrameHolds z steps deep below (f.Copies nodes next) h streams = Each (there z steps) nodes × below h streams
FrameHolds z steps deep below (f.Apart outer purpose) h streams = PurposeHolds (there z steps) deep below h streams purpose
FrameHolds z steps deep below (f.Globals left begun) h streams = (deep ≡ 0) × ((globals : List Value) → below (at_root globals) streams)

-- what frames hold, the top first
abbrev pub Holds : {S : Type 0} → Scene S → List Step → List Frame → Stand → List S → Type 0
Holds z steps [] h streams = streams ≡ []
Holds z steps (frame ∷ frames) h streams = FrameHolds z steps (depth frames) (Holds z steps frames) frame h streams

-- a machine with these frames stands for the steps
pub record Sound {S : Type 0} (z : Scene S) (steps : List Step) (frames : List Frame) (m : Core S) : Type 0 where
  pub root : there z steps 0
  pub sizes : asks_size m.sheet.now ≡ m.sizes
  pub globals : AllValues (there z steps) m.globals
  pub locals : AllValues (there z steps) m.locals
  pub context : IsContext (there z steps) m.context
  pub holds : Holds z steps frames (stand_of m) (reverse m.streams)

-- a document may be asked by a machine with these frames
pub record Ready {S M N : Type 0} (walks : S → Walk) (follows : S → Follows) (asked : Asked N) (seen : Seen M) (fits : Fits) (frames : List Frame) (m : Core S) : Type 0 where
  pub stands : Stands seen fits
  pub sound : Sound (scene_of walks follows asked seen) seen.steps frames m
