-- What was given where a value came of several steps.
use Rattle.std.proofs.Common.{◌≡◌, refl, subst, List, [], ◌∷◌, Result, Ok, Err}
use Rattle.sheet_elements.specs.declared.fault.SheetFault.{SheetFault}
use Rattle.sheet_elements.specs.declared.fault.SheetKind.{SheetKind}
use Rattle.sheet_reading.specs.Judgement as judgement
use Rattle.sheet_values.specs.Refusals as refusals

abbrev pub Each : {A : Type 0} → (A → Type 0) → List A → Type 0
Each P [] = Unit {0}
Each P (x ∷ xs) = P x × Each P xs

pub same_ok : {A E : Type 0} (a b : A) → ◌≡◌ {A = Result A E} (Ok a) (Ok b) → a ≡ b
same_ok a b h = cc

pub no_ok : {A E : Type 0} (e : E) (b : A) → ◌≡◌ {A = Result A E} (Err e) (Ok b) → ⊥
no_ok e b h = cc

pub of_judgement : {A B : Type 0} (m : Result A SheetFault) (f : A → Result B SheetFault) (b : B) → judgement.◌>>=◌ m f ≡ Ok b → (a : A) × (m ≡ Ok a) × (f a ≡ Ok b)
of_judgement (Ok a) f b is = (a, refl, is)
of_judgement (Err e) f b is = absurd (no_ok e b is)

pub of_value : {A B : Type 0} (m : Result A SheetKind) (f : A → Result B SheetKind) (b : B) → refusals.◌>>=◌ m f ≡ Ok b → (a : A) × (m ≡ Ok a) × (f a ≡ Ok b)
of_value (Ok a) f b is = (a, refl, is)
of_value (Err e) f b is = absurd (no_ok e b is)

-- what holds of each that a step gives holds of all
pub each_judged : {A B : Type 0} (P : B → Type 0) (f : A → Result B SheetFault) → ((x : A) (y : B) → f x ≡ Ok y → P y) → (xs : List A) (ys : List B)
    → judgement.each f xs ≡ Ok ys → Each P ys
each_judged P f h [] ys is = subst (Each P) (same_ok [] ys is) tt
each_judged P f h (x ∷ xs) ys is =
    let first = of_judgement (f x) _ ys is in
    let rest = of_judgement (judgement.each f xs) _ ys first.2 in
    subst (Each P) (same_ok (first.0 ∷ rest.0) ys rest.2) (h x first.0 first.1, each_judged P f h xs rest.0 rest.1)

pub each_valued : {A B : Type 0} (P : B → Type 0) (f : A → Result B SheetKind) → ((x : A) (y : B) → f x ≡ Ok y → P y) → (xs : List A) (ys : List B)
    → refusals.each f xs ≡ Ok ys → Each P ys
each_valued P f h [] ys is = subst (Each P) (same_ok [] ys is) tt
each_valued P f h (x ∷ xs) ys is =
    let first = of_value (f x) _ ys is in
    let rest = of_value (refusals.each f xs) _ ys first.2 in
    subst (Each P) (same_ok (first.0 ∷ rest.0) ys rest.2) (h x first.0 first.1, each_valued P f h xs rest.0 rest.1)
