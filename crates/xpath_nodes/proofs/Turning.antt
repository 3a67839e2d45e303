-- One turn of each loop, and its end.
use Rattle.std.proofs.Common.{◌≡◌, refl, sym, ap, ◌∙◌, subst, Result, Ok, Err, ℕ, suc, ◌+◌, ◌<◌, ◌≤◌, List, [], ◌∷◌, ◌++◌, length, get_or, drop}
use Rattle.std.proofs.Common.{Bool, true, cond, append_assoc, append-nil, add-one, drop-cons}
use Rattle.std.proofs.lemmas.List.{drop_all}
use Rattle.std.specs.Prelude.{IfOk, MatchResult}
use Rattle.doc_model.specs.declared.row.Axis.TheVariants as axis
use Rattle.doc_model.specs.Answers.{Answer, Known, Fault, Open}
use Rattle.whole_num.specs.Number.{sum_of}
use Rattle.whole_num.specs.Text as numbers
use Rattle.whole_num.specs.declared.number.Num.{Num}
use Rattle.xpath_meaning.specs.Conversions.{first_of}
use Rattle.xpath_meaning.specs.Functions.{sum_onto, lang_test, lang_here, nearest_lang}
use Rattle.xpath_meaning.specs.Outcome.{Outcome, ◌>>=◌, calculated, some_holds, each_of}
use Rattle.xpath_meaning.specs.Reading.{Reading}
use Rattle.xpath_meaning.specs.declared.stop.EvalStop.{EvalStop}
use Rattle.xpath_meaning.specs.declared.stop.EvalStop.TheVariants as stop
use Rattle.whole_num.specs.declared.number.Memory.{Memory}
use Rattle.whole_num.specs.declared.number.NumFault.{NumFault}
use Rattle.xpath_laws.proofs.Staying.{bind_stays, stays}
use Rattle.key_sources.specs.Going.{Gives}
use Rattle.key_sources.proofs.Saying.{Keeps}

pub then_then : {A B C : Type 0} (a : Outcome A) (f : A → Outcome B) (g : B → Outcome C) → ((a >>= f) >>= g) ≡ (a >>= λ x. f x >>= g)
then_then (Known x) f g = refl
then_then (Fault e) f g = refl
then_then (Open m) f g = refl

pub rest_of : {A : Type 0} (xs : List A) (i : ℕ) (d : A) → i < length xs → drop i xs ≡ get_or xs i d ∷ drop (i + 1) xs
rest_of xs i d h = drop-cons xs i d h ∙ ap (λ k. get_or xs i d ∷ drop k xs) (sym (add-one i))

pub no_rest : {A : Type 0} (xs : List A) (i : ℕ) → length xs ≤ i → drop i xs ≡ []
no_rest xs i h = drop_all i xs h

-- ---- what each item gives

again : {A : Type 0} (o : Outcome (List A)) (none : List A) → none ≡ [] → o ≡ (o >>= λ more. Known (none ++ more))
again (Known xs) none e = ap (λ n. Known (n ++ xs)) (sym e)
again (Fault f) none e = refl
again (Open m) none e = refl

collects : {A : Type 0} (a : Outcome A) (b : Outcome (List A)) (so_far : List A)
    → ((a >>= λ y. b >>= λ ys. Known (y ∷ ys)) >>= λ more. Known (so_far ++ more)) ≡ (a >>= λ y. b >>= λ more. Known ((so_far ++ y ∷ []) ++ more))
collects (Known y) (Known ys) so_far = ap Known (sym (append_assoc so_far (y ∷ []) ys))
collects (Known y) (Fault f) so_far = refl
collects (Known y) (Open m) so_far = refl
collects (Fault f) b so_far = refl
collects (Open m) b so_far = refl

-- what is left of giving all
abbrev pub giving : {A B : Type 0} → (A → Outcome B) → List A → List B → Outcome (List B)
giving f left so_far = each_of f left >>= λ more. Known (so_far ++ more)

pub each_starts : {A B : Type 0} (f : A → Outcome B) (xs : List A) (none : List B) → none ≡ [] → each_of f xs ≡ giving f (drop 0 xs) none
each_starts f xs none e = again (each_of f xs) none e

pub each_turns : {A B : Type 0} (f : A → Outcome B) (xs : List A) (i : ℕ) (d : A) (so_far : List B) → i < length xs
    → giving f (drop i xs) so_far ≡ (f (get_or xs i d) >>= λ y. giving f (drop (i + 1) xs) (so_far ++ y ∷ []))
each_turns f xs i d so_far h = ap (λ left. giving f left so_far) (rest_of xs i d h) ∙ collects (f (get_or xs i d)) (each_of f (drop (i + 1) xs)) so_far

pub each_ends : {A B : Type 0} (f : A → Outcome B) (xs : List A) (i : ℕ) (so_far : List B) → length xs ≤ i → giving f (drop i xs) so_far ≡ Known so_far
each_ends f xs i so_far h = ap (λ left. giving f left so_far) (no_rest xs i h) ∙ ap Known (append-nil so_far)

-- ---- sums

abbrev pub number_at : Reading → ℕ → Outcome Num
number_at R n = R.value n >>= λ bytes. calculated (numbers.number_of bytes)

pub sum_turns : (R : Reading) (ns : List ℕ) (i : ℕ) (total : Num) → i < length ns
    → sum_onto R total (drop i ns) ≡ (number_at R (get_or ns i 0) >>= λ x. calculated (sum_of total x) >>= λ more. sum_onto R more (drop (i + 1) ns))
sum_turns R ns i total h =
    ap (sum_onto R total) (rest_of ns i 0 h)
    ∙ sym (then_then (R.value (get_or ns i 0)) (λ bytes. calculated (numbers.number_of bytes)) (λ x. calculated (sum_of total x) >>= λ more. sum_onto R more (drop (i + 1) ns)))

pub sum_ends : (R : Reading) (ns : List ℕ) (i : ℕ) (total : Num) → length ns ≤ i → sum_onto R total (drop i ns) ≡ Known total
sum_ends R ns i total h = ap (sum_onto R total) (no_rest ns i h)

-- ---- languages

pub lang_turns : (R : Reading) (ns : List ℕ) (i : ℕ) → i < length ns
    → nearest_lang R (drop i ns) ≡ (R.axis axis.Attribute lang_test (get_or ns i 0) >>= λ found. lang_here R (first_of found) (nearest_lang R (drop (i + 1) ns)))
lang_turns R ns i h = ap (nearest_lang R) (rest_of ns i 0 h)

pub lang_ends : (R : Reading) (ns : List ℕ) (i : ℕ) → length ns ≤ i → nearest_lang R (drop i ns) ≡ nearest_lang R []
lang_ends R ns i h = ap (nearest_lang R) (no_rest ns i h)

-- ---- whether it holds of some item

pub some_turns : {A : Type 0} (f : A → Outcome Bool) (xs : List A) (i : ℕ) (d : A) → i < length xs
    → some_holds f (drop i xs) ≡ (f (get_or xs i d) >>= λ here. cond here (Known true) (some_holds f (drop (i + 1) xs)))
some_turns f xs i d h = ap (some_holds f) (rest_of xs i d h)

pub some_ends : {A : Type 0} (f : A → Outcome Bool) (xs : List A) (i : ℕ) → length xs ≤ i → some_holds f (drop i xs) ≡ some_holds f []
some_ends f xs i h = ap (some_holds f) (no_rest xs i h)

-- ---- calculations

pub given_by : {A : Type 0} {a b : Result A NumFault} → a ≡ b → (result : Result A EvalStop) → Gives (calculated a) result → Gives (calculated b) result
given_by e result g = subst (λ r. Gives (calculated r) result) e g

pub keeps_number : (n : ℕ) → Keeps (λ R. number_at R n)
keeps_number n = record { stays = λ R Q x. bind_stays (R.value n) (Q.value n) _ _ (x.value n) (λ bytes. stays (calculated (numbers.number_of bytes))) }

-- what was made is what was meant
pub made_is : {A : Type 0} (from : Result A Memory) (to : Result A EvalStop) (x : A) → IfOk from (λ y. y ≡ x) → MatchResult from (λ y. to ≡ Ok y) (λ e. to ≡ Err stop.Memory) → Gives (Known x) to
made_is (Ok y) to x e m = subst (Gives (Known x)) (sym m) (ap Known (sym e))
made_is (Err e) to x h m = subst (Gives (Known x)) (sym m) tt

pub made_ok : {A : Type 0} (from : Result A Memory) (y x : A) → IfOk from (λ z. z ≡ x)
    → MatchResult from (λ z. ◌≡◌ {A = Result A EvalStop} (Ok y) (Ok z)) (λ e. ◌≡◌ {A = Result A EvalStop} (Ok y) (Err stop.Memory)) → y ≡ x
made_ok (Ok z) y x e m = (let same : y ≡ z = cc in same) ∙ e
made_ok (Err e) y x h m = absurd (let no : ⊥ = cc in no)
