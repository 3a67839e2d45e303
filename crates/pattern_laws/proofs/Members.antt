-- Members of lists that are joined.
use Rattle.std.proofs.Common.{◌≡◌, refl, ap, ◌∙◌, subst, ℕ, true, false, ◌||◌, eqb, List, [], ◌∷◌, ◌++◌, map, ◌⊎◌, inl, inr}
use Rattle.std.proofs.lemmas.Bool.{eq-eqb, eqb-true, false≢true}
use Rattle.doc_model.specs.Answers.{Known}
use Rattle.doc_model.specs.Document.{is_member}
use Rattle.xpath_laws.specs.Sound.{Each}
use Rattle.xpath_laws.proofs.Order.{or_cases, or_right}
use Rattle.xpath_meaning.specs.Outcome.{Outcome, ◌>>=◌, each_of}
use Rattle.xpath_meaning.specs.Steps.{joined}

pub member_here : (k : ℕ) (ns : List ℕ) → is_member k (k ∷ ns) ≡ true
member_here k ns = ap (λ b. b || is_member k ns) (eq-eqb k k refl)

pub member_alone : (k m : ℕ) → is_member k (m ∷ []) ≡ true → k ≡ m
member_alone k m h = elim (or_cases (eqb k m) false h) [ inl e ↦ eqb-true k m e | inr f ↦ absurd (false≢true f) ]

pub in_left : (k : ℕ) (xs ys : List ℕ) → is_member k xs ≡ true → is_member k (xs ++ ys) ≡ true
in_left k [] ys h = absurd (false≢true h)
in_left k (x ∷ xs) ys h = elim (or_cases (eqb k x) (is_member k xs) h) [
  | inl e ↦ ap (λ b. b || is_member k (xs ++ ys)) e
  | inr m ↦ or_right (eqb k x) (is_member k (xs ++ ys)) (in_left k xs ys m)
]

pub in_right : (k : ℕ) (xs ys : List ℕ) → is_member k ys ≡ true → is_member k (xs ++ ys) ≡ true
in_right k [] ys h = h
in_right k (x ∷ xs) ys h = or_right (eqb k x) (is_member k (xs ++ ys)) (in_right k xs ys h)

pub in_either : (k : ℕ) (xs ys : List ℕ) → is_member k (xs ++ ys) ≡ true → (is_member k xs ≡ true) ⊎ (is_member k ys ≡ true)
in_either k [] ys h = inr h
in_either k (x ∷ xs) ys h = elim (or_cases (eqb k x) (is_member k (xs ++ ys)) h) [
  | inl e ↦ inl (ap (λ b. b || is_member k xs) e)
  | inr m ↦ elim (in_either k xs ys m) [ inl l ↦ inl (or_right (eqb k x) (is_member k xs) l) | inr r ↦ inr r ]
]

-- a member of the lists that some nodes give is one that a node gives
pub given_by : (g : ℕ → List ℕ) (ns : List ℕ) (k : ℕ) → is_member k (joined (map g ns)) ≡ true → (m : ℕ) × (is_member m ns ≡ true) × (is_member k (g m) ≡ true)
given_by g [] k h = absurd (false≢true h)
given_by g (n ∷ ns) k h = elim (in_either k (g n) (joined (map g ns)) h) [
  | inl l ↦ (n, member_here n ns, l)
  | inr r ↦ let w = given_by g ns k r in (w.0, or_right (eqb (w.0) n) (is_member (w.0) ns) w.1, w.2)
]

pub gives_on : (g : ℕ → List ℕ) (ns : List ℕ) (m k : ℕ) → is_member m ns ≡ true → is_member k (g m) ≡ true → is_member k (joined (map g ns)) ≡ true
gives_on g [] m k h i = absurd (false≢true h)
gives_on g (n ∷ ns) m k h i = elim (or_cases (eqb m n) (is_member m ns) h) [
  | inl e ↦ in_left k (g n) (joined (map g ns)) (subst (λ j. is_member k (g j) ≡ true) (eqb-true m n e) i)
  | inr r ↦ in_right k (g n) (joined (map g ns)) (gives_on g ns m k r i)
]

-- what is known of each
pub each_known : {A B : Type 0} (f : A → Outcome B) (g : A → B) (T : A → Type 0) (ns : List A) → Each T ns → ((n : A) → T n → f n ≡ Known (g n)) → each_of f ns ≡ Known (map g ns)
each_known f g T [] a h = refl
each_known {A} {B} f g T (n ∷ ns) a h =
    ap (λ (o : Outcome B). o >>= (λ y. each_of f ns >>= (λ ys. Known (y ∷ ys)))) (h n a.0)
    ∙ ap (λ (o : Outcome (List B)). o >>= (λ ys. Known (g n ∷ ys))) (each_known f g T ns a.1 h)
