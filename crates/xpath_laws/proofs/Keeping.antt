-- Meanings that keep what they tell.
use Rattle.std.proofs.Common.{refl, ℕ, List, [], ◌∷◌, Option, Some, None}
use Rattle.std.specs.Prelude.{⊤}
use Rattle.doc_model.specs.Answers.{Stays}
use Rattle.whole_num.specs.Text as numbers
use Rattle.xpath_values.specs.Conversions as atoms
use Rattle.xpath_values.specs.Fragments as fragments
use Rattle.xpath_values.specs.declared.value.Value.{Value}
use Rattle.xpath_values.specs.declared.value.Value.TheVariants.{Nodes, Atom, Fragment}
use Rattle.xpath_meaning.specs.declared.context.Context.{Context}
use Rattle.xpath_meaning.specs.Conversions.{text_of, text_of_first, number_of, nodes_of, first_of}
use Rattle.xpath_meaning.specs.Meanings.{Meaning, Meant, MeantStep, MeantPath, text_by, text_at, truth_by, truth_at, number_by, number_at, nodes_at, holds_by, holds_at}
use Rattle.xpath_meaning.specs.Outcome.{Outcome, calculated}
use Rattle.xpath_meaning.specs.Reading.{Reading, Extends}
use Rattle.xpath_meaning.specs.Streams.{Stream, GoesOn}
use Rattle.xpath_laws.proofs.Staying.{bind_stays, stays}
use Rattle.xpath_laws.proofs.Going.{first_stays}

abbrev pub Keeps : {A : Type 0} → Meaning (Outcome A) → Type 0
Keeps m = (R Q : Reading) → Extends R Q → (values : List Value) (c : Context) → Stays (m R values c) (m Q values c)

abbrev pub KeepsItems : Meaning Stream → Type 0
KeepsItems items = (R Q : Reading) → Extends R Q → (values : List Value) (c : Context) → GoesOn (items R values c) (items Q values c)

abbrev pub KeepsItemsIf : Option (Meaning Stream) → Type 0
KeepsItemsIf None = ⊤
KeepsItemsIf (Some items) = KeepsItems items

pub record MeantKeeps (m : Meant) : Type 0 where
  pub value : Keeps m.value
  pub items : KeepsItemsIf m.items

abbrev pub AllKeep : List Meant → Type 0
AllKeep [] = ⊤
AllKeep (m ∷ ms) = MeantKeeps m × AllKeep ms

abbrev pub StepKeeps : MeantStep → Type 0
StepKeeps step = AllKeep step.predicates

abbrev pub AllStepsKeep : List MeantStep → Type 0
AllStepsKeep [] = ⊤
AllStepsKeep (s ∷ ss) = StepKeeps s × AllStepsKeep ss

abbrev pub PathKeeps : MeantPath → Type 0
PathKeeps path = AllStepsKeep path.parts

abbrev pub PathKeepsIf : Option MeantPath → Type 0
PathKeepsIf None = ⊤
PathKeepsIf (Some path) = PathKeeps path

pub first_text_stays : (R Q : Reading) → Extends R Q → (first : Option ℕ) → Stays (text_of_first R first) (text_of_first Q first)
first_text_stays R Q x None = refl
first_text_stays R Q x (Some n) = x.value n

pub text_stays : (R Q : Reading) → Extends R Q → (v : Value) → Stays (text_of R v) (text_of Q v)
text_stays R Q x (Nodes nodes) = first_text_stays R Q x (first_of nodes)
text_stays R Q x (Atom atom) = refl
text_stays R Q x (Fragment events) = refl

pub number_stays : (R Q : Reading) → Extends R Q → (v : Value) → Stays (number_of R v) (number_of Q v)
number_stays R Q x (Nodes nodes) =
    bind_stays (text_of_first R (first_of nodes)) (text_of_first Q (first_of nodes)) _ _ (first_text_stays R Q x (first_of nodes)) (λ bytes. stays (calculated (numbers.number_of bytes)))
number_stays R Q x (Atom atom) = stays (calculated (atoms.number_of atom))
number_stays R Q x (Fragment events) = stays (calculated (numbers.number_of (fragments.text_of events)))

text_by_keeps : (items : Option (Meaning Stream)) (value : Meaning (Outcome Value)) → KeepsItemsIf items → Keeps value → Keeps (text_by items value)
text_by_keeps None value i k R Q x values c = bind_stays (value R values c) (value Q values c) _ _ (k R Q x values c) (text_stays R Q x)
text_by_keeps (Some items) value i k R Q x values c = bind_stays _ _ _ _ (first_stays (items R values c) (items Q values c) (i R Q x values c)) (first_text_stays R Q x)

pub text_keeps : (m : Meant) → MeantKeeps m → Keeps (text_at m)
text_keeps m k = text_by_keeps m.items m.value k.items k.value

truth_by_keeps : (items : Option (Meaning Stream)) (value : Meaning (Outcome Value)) → KeepsItemsIf items → Keeps value → Keeps (truth_by items value)
truth_by_keeps None value i k R Q x values c = bind_stays (value R values c) (value Q values c) _ _ (k R Q x values c) (λ v. refl)
truth_by_keeps (Some items) value i k R Q x values c = bind_stays _ _ _ _ (first_stays (items R values c) (items Q values c) (i R Q x values c)) (λ first. refl)

pub truth_keeps : (m : Meant) → MeantKeeps m → Keeps (truth_at m)
truth_keeps m k = truth_by_keeps m.items m.value k.items k.value

number_by_keeps : (items : Option (Meaning Stream)) (value : Meaning (Outcome Value)) → KeepsItemsIf items → Keeps value → Keeps (number_by items value)
number_by_keeps None value i k R Q x values c = bind_stays (value R values c) (value Q values c) _ _ (k R Q x values c) (number_stays R Q x)
number_by_keeps (Some items) value i k R Q x values c =
    bind_stays _ _ _ _ (bind_stays _ _ _ _ (first_stays (items R values c) (items Q values c) (i R Q x values c)) (first_text_stays R Q x)) (λ bytes. stays (calculated (numbers.number_of bytes)))

pub number_keeps : (m : Meant) → MeantKeeps m → Keeps (number_at m)
number_keeps m k = number_by_keeps m.items m.value k.items k.value

pub nodes_keep : (m : Meant) → MeantKeeps m → Keeps (nodes_at m)
nodes_keep m k R Q x values c = bind_stays (m.value R values c) (m.value Q values c) _ _ (k.value R Q x values c) (λ v. stays (nodes_of v))

holds_by_keeps : (items : Option (Meaning Stream)) (value : Meaning (Outcome Value)) → KeepsItemsIf items → Keeps value → Keeps (holds_by items value)
holds_by_keeps None value i k R Q x values c = bind_stays (value R values c) (value Q values c) _ _ (k R Q x values c) (λ v. refl)
holds_by_keeps (Some items) value i k R Q x values c = bind_stays _ _ _ _ (first_stays (items R values c) (items Q values c) (i R Q x values c)) (λ first. refl)

pub holds_keeps : (m : Meant) → MeantKeeps m → Keeps (holds_at m)
holds_keeps m k = holds_by_keeps m.items m.value k.items k.value
