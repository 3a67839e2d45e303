-- Values and conversions of them tell of rows that are there.
use Rattle.std.proofs.Common.{ℕ, List, [], ◌∷◌, Option, Some, None}
use Rattle.std.specs.Prelude.{⊤}
use Rattle.whole_num.specs.Text as numbers
use Rattle.xpath_values.specs.Conversions as atoms
use Rattle.xpath_values.specs.Fragments as fragments
use Rattle.xpath_values.specs.declared.value.Value.{Value}
use Rattle.xpath_values.specs.declared.value.Value.TheVariants.{Nodes, Atom, Fragment}
use Rattle.xpath_meaning.specs.declared.context.Context.{Context}
use Rattle.xpath_meaning.specs.declared.context.Size.{Size}
use Rattle.xpath_meaning.specs.Conversions.{text_of, text_of_first, number_of, nodes_of, first_of}
use Rattle.xpath_meaning.specs.Meanings.{Meaning, Meant, MeantStep, MeantPath, text_by, text_at, truth_by, truth_at, number_by, number_at, nodes_at, holds_by, holds_at, at_node}
use Rattle.xpath_meaning.specs.Outcome.{Outcome}
use Rattle.xpath_meaning.specs.Reading.{Reading}
use Rattle.xpath_meaning.specs.Streams.{Stream}
use Rattle.xpath_laws.specs.Sound.{Rows, Tells, Anything, Each, IsNodeSet, IsValue, AllValues, IsContext, Flows, IsReading}
use Rattle.xpath_laws.proofs.Tells.{Perhaps, bind_tells, calculated_tells, first_tells}

-- a reading of such rows, such values, and such a context
pub record Given (T O : Rows) (R : Reading) (values : List Value) (c : Context) : Type 0 where
  pub reading : IsReading T O R
  pub bound : AllValues T values
  pub context : IsContext T c

abbrev pub Sound : Rows → Rows → {A : Type 0} → (A → Type 0) → Meaning (Outcome A) → Type 0
Sound T O V m = (R : Reading) (values : List Value) (c : Context) → Given T O R values c → Tells O V (m R values c)

abbrev pub SoundItems : Rows → Rows → Meaning Stream → Type 0
SoundItems T O items = (R : Reading) (values : List Value) (c : Context) → Given T O R values c → Flows T O (items R values c)

abbrev pub SoundItemsIf : Rows → Rows → Option (Meaning Stream) → Type 0
SoundItemsIf T O None = ⊤
SoundItemsIf T O (Some items) = SoundItems T O items

pub record MeantSound (T O : Rows) (m : Meant) : Type 0 where
  pub value : Sound T O (IsValue T) m.value
  pub items : SoundItemsIf T O m.items

abbrev pub StepSound : Rows → Rows → MeantStep → Type 0
StepSound T O step = Each (MeantSound T O) step.predicates

abbrev pub PathSound : Rows → Rows → MeantPath → Type 0
PathSound T O path = Each (StepSound T O) path.parts

abbrev pub PathSoundIf : Rows → Rows → Option MeantPath → Type 0
PathSoundIf T O None = ⊤
PathSoundIf T O (Some path) = PathSound T O path

module _ (T O : Rows) where
  pub at_given : (R : Reading) (values : List Value) (c : Context) (size : Size) (position n : ℕ) → T n → Given T O R values c → Given T O R values (at_node c size position n)
  at_given R values c size position n t g = record { reading = g.reading; bound = g.bound; context = record { node = t; current = g.context.current } }

  pub first_perhaps : (nodes : List ℕ) → Each T nodes → Perhaps T (first_of nodes)
  first_perhaps [] a = tt
  first_perhaps (n ∷ ns) a = a.0

  pub first_text_told : (R : Reading) → IsReading T O R → (first : Option ℕ) → Perhaps T first → Tells O Anything (text_of_first R first)
  first_text_told R x None p = tt
  first_text_told R x (Some n) p = x.value n p

  pub text_told : (R : Reading) → IsReading T O R → (v : Value) → IsValue T v → Tells O Anything (text_of R v)
  text_told R x (Nodes nodes) i = first_text_told R x (first_of nodes) (first_perhaps nodes i.1)
  text_told R x (Atom atom) i = tt
  text_told R x (Fragment events) i = tt

  pub number_told : (R : Reading) → IsReading T O R → (v : Value) → IsValue T v → Tells O Anything (number_of R v)
  number_told R x (Nodes nodes) i =
      bind_tells O Anything Anything (text_of_first R (first_of nodes)) _ (first_text_told R x (first_of nodes) (first_perhaps nodes i.1)) (λ bytes a. calculated_tells O (numbers.number_of bytes))
  number_told R x (Atom atom) i = calculated_tells O (atoms.number_of atom)
  number_told R x (Fragment events) i = calculated_tells O (numbers.number_of (fragments.text_of events))

  pub nodes_told : (v : Value) → IsValue T v → Tells O (IsNodeSet T) (nodes_of v)
  nodes_told (Nodes nodes) i = i
  nodes_told (Atom atom) i = tt
  nodes_told (Fragment events) i = tt

  text_by_sound : (items : Option (Meaning Stream)) (value : Meaning (Outcome Value)) → SoundItemsIf T O items → Sound T O (IsValue T) value → Sound T O Anything (text_by items value)
  text_by_sound None value i k R values c g = bind_tells O (IsValue T) Anything (value R values c) (text_of R) (k R values c g) (text_told R g.reading)
  text_by_sound (Some items) value i k R values c g = bind_tells O (Perhaps T) Anything _ (text_of_first R) (first_tells O T (items R values c) (i R values c g)) (first_text_told R g.reading)

  pub text_sound : (m : Meant) → MeantSound T O m → Sound T O Anything (text_at m)
  text_sound m k = text_by_sound m.items m.value k.items k.value

  truth_by_sound : (items : Option (Meaning Stream)) (value : Meaning (Outcome Value)) → SoundItemsIf T O items → Sound T O (IsValue T) value → Sound T O Anything (truth_by items value)
  truth_by_sound None value i k R values c g = bind_tells O (IsValue T) Anything (value R values c) _ (k R values c g) (λ v a. tt)
  truth_by_sound (Some items) value i k R values c g = bind_tells O (Perhaps T) Anything _ _ (first_tells O T (items R values c) (i R values c g)) (λ first a. tt)

  pub truth_sound : (m : Meant) → MeantSound T O m → Sound T O Anything (truth_at m)
  truth_sound m k = truth_by_sound m.items m.value k.items k.value

  number_by_sound : (items : Option (Meaning Stream)) (value : Meaning (Outcome Value)) → SoundItemsIf T O items → Sound T O (IsValue T) value → Sound T O Anything (number_by items value)
  number_by_sound None value i k R values c g = bind_tells O (IsValue T) Anything (value R values c) (number_of R) (k R values c g) (number_told R g.reading)
  number_by_sound (Some items) value i k R values c g =
      bind_tells O Anything Anything _ _ (bind_tells O (Perhaps T) Anything _ (text_of_first R) (first_tells O T (items R values c) (i R values c g)) (first_text_told R g.reading))
      (λ bytes a. calculated_tells O (numbers.number_of bytes))

  pub number_sound : (m : Meant) → MeantSound T O m → Sound T O Anything (number_at m)
  number_sound m k = number_by_sound m.items m.value k.items k.value

  pub nodes_sound : (m : Meant) → MeantSound T O m → Sound T O (IsNodeSet T) (nodes_at m)
  nodes_sound m k R values c g = bind_tells O (IsValue T) (IsNodeSet T) (m.value R values c) nodes_of (k.value R values c g) nodes_told

  holds_by_sound : (items : Option (Meaning Stream)) (value : Meaning (Outcome Value)) → SoundItemsIf T O items → Sound T O (IsValue T) value → Sound T O Anything (holds_by items value)
  holds_by_sound None value i k R values c g = bind_tells O (IsValue T) Anything (value R values c) _ (k R values c g) (λ v a. tt)
  holds_by_sound (Some items) value i k R values c g = bind_tells O (Perhaps T) Anything _ _ (first_tells O T (items R values c) (i R values c g)) (λ first a. tt)

  pub holds_sound : (m : Meant) → MeantSound T O m → Sound T O Anything (holds_at m)
  holds_sound m k = holds_by_sound m.items m.value k.items k.value
