-- An element's head as it begins and grows.
use Rattle.std.proofs.Common.{◌≡◌, ℕ, List, [], ◌∷◌, Bool, true, false, if◌then◌else◌, refl, ap, ◌∙◌, subst}
use Rattle.xml_names.specs.Kept.{Latest}
use Rattle.pyx_output.specs.Bytes.{Element, in_force}
use Rattle.pyx_output.specs.Choosing.{choice_of}
use Rattle.pyx_output.specs.Declaring.{Choice, as_it_stands, declaring, with_choice}
use Rattle.pyx_output.specs.Heading.{with_all, inner_element, UsesOwn}
use Rattle.pyx_output.specs.Used.{IsUsed}
use Rattle.pyx_output.specs.declared.choosing.Chosen.{Chosen}

nest_by : (is : Bool) (prefix uri name : List ℕ) (outer : List Element)
    → with_all (if is then declaring prefix uri else as_it_stands prefix).declared (record { name = name; bound = in_force outer } ∷ outer)
    ≡ inner_element name outer (with_choice (if is then declaring prefix uri else as_it_stands prefix) (record { own = []; used = [] })) ∷ outer
nest_by true prefix uri name outer = refl
nest_by false prefix uri name outer = refl

pub begun_nest : (chosen : Chosen) (uri name : List ℕ) (outer : List Element) (choice : Choice) → choice_of chosen uri ≡ choice
    → with_all (choice_of chosen uri).declared (record { name = name; bound = in_force outer } ∷ outer) ≡ inner_element name outer (with_choice choice (record { own = []; used = [] })) ∷ outer
begun_nest chosen uri name outer choice same =
    nest_by chosen.declares chosen.prefix uri name outer ∙ ap (λ (choice : Choice). inner_element name outer (with_choice choice (record { own = []; used = [] })) ∷ outer) same

own_by : (is : Bool) (prefix uri : List ℕ) → UsesOwn (with_choice (if is then declaring prefix uri else as_it_stands prefix) (record { own = []; used = [] }))
own_by true prefix uri = λ other is. is
own_by false prefix uri = λ other is. absurd (cc)

pub begun_own : (chosen : Chosen) (uri : List ℕ) (choice : Choice) → choice_of chosen uri ≡ choice → UsesOwn (with_choice choice (record { own = []; used = [] }))
begun_own chosen uri choice same = subst (λ (choice : Choice). UsesOwn (with_choice choice (record { own = []; used = [] }))) same (own_by chosen.declares chosen.prefix uri)

pub begun_used : (index : Latest) (prefix later : List ℕ) → prefix ≡ later → IsUsed index (prefix ∷ []) → IsUsed index (later ∷ [])
begun_used index prefix later same is = subst (λ (prefix : List ℕ). IsUsed index (prefix ∷ [])) same is
