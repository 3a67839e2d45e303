-- What is known or a fault stays, if it does so in the parts.
use Rattle.std.proofs.Common.{refl, sym, ap, subst, ℕ, suc, Bool, true, false, List, [], ◌∷◌, cond}
use Rattle.doc_model.specs.Answers.{Answer, Known, Fault, Open, Stays, with_faults}
use Rattle.fault_kinds.specs.declared.fault.FaultKind.{FaultKind}
use Rattle.xpath_meaning.specs.Outcome.{Outcome, ◌>>=◌, some_holds, each_of, kept_from}

pub bind_stays : {A B : Type 0} (a b : Outcome A) (f g : A → Outcome B) → Stays a b → ((x : A) → Stays (f x) (g x)) → Stays (a >>= f) (b >>= g)
bind_stays (Known x) b f g s h = subst (λ w. Stays (f x) (w >>= g)) (sym s) (h x)
bind_stays (Fault e) b f g s h = ap (λ w. w >>= g) s
bind_stays (Open m) b f g s h = tt

pub stays : {A : Type 0} (o : Outcome A) → Stays o o
stays (Known x) = refl
stays (Fault e) = refl
stays (Open m) = tt

pub if_stays : {A : Type 0} (b : Bool) (x x' y y' : Outcome A) → Stays x x' → Stays y y' → Stays (cond b x y) (cond b x' y')
if_stays true x x' y y' s t = s
if_stays false x x' y y' s t = t

pub some_stays : {A : Type 0} (f g : A → Outcome Bool) (xs : List A) → ((x : A) → Stays (f x) (g x)) → Stays (some_holds f xs) (some_holds g xs)
some_stays f g [] h = refl
some_stays f g (x ∷ xs) h = bind_stays (f x) (g x) _ _ (h x) (λ here. if_stays here _ _ _ _ refl (some_stays f g xs h))

pub each_stays : {A B : Type 0} (f g : A → Outcome B) (xs : List A) → ((x : A) → Stays (f x) (g x)) → Stays (each_of f xs) (each_of g xs)
each_stays f g [] h = refl
each_stays f g (x ∷ xs) h = bind_stays (f x) (g x) _ _ (h x) (λ y. bind_stays (each_of f xs) (each_of g xs) _ _ (each_stays f g xs h) (λ ys. refl))

pub kept_stays : {A : Type 0} (at : ℕ) (f g : ℕ → A → Outcome Bool) (xs : List A) → ((k : ℕ) (x : A) → Stays (f k x) (g k x)) → Stays (kept_from at f xs) (kept_from at g xs)
kept_stays at f g [] h = refl
kept_stays at f g (x ∷ xs) h = bind_stays (f at x) (g at x) _ _ (h at x) (λ here. bind_stays (kept_from (suc at) f xs) (kept_from (suc at) g xs) _ _ (kept_stays (suc at) f g xs h) (λ rest. refl))

pub with_faults_stays : {A : Type 0} (a b : Answer ⊥ A) → Stays a b → Stays {F = FaultKind} (with_faults a) (with_faults b)
with_faults_stays (Known x) b s = ap with_faults s
with_faults_stays (Fault f) b s = absurd f
with_faults_stays (Open m) b s = tt
