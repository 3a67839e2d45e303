-- What a call answers, by what its parts answer.
use Rattle.std.proofs.Common.{◌≡◌, sym, ap, subst, Result, Ok, Err}
use Rattle.xpath_binding.specs.declared.error.BindError.{BindError}
use Rattle.xpath_binding.specs.declared.error.BindError.TheVariants as error
use Rattle.xpath_binding.specs.Names.{◌>>=◌, Answers}

-- a refusal of the first part is one of the whole
pub stops : {A B : Type 0} (m : Result A BindError) (f : A → Result B BindError) (e : BindError) → Answers m (Err e) → Answers (m >>= f) (Err e)
stops m f error.UnboundPrefix h = ap (λ r. r >>= f) h
stops m f error.UnknownFunction h = ap (λ r. r >>= f) h
stops m f error.WrongArgs h = ap (λ r. r >>= f) h
stops m f error.UnknownVariable h = ap (λ r. r >>= f) h
stops m f error.Unsupported h = ap (λ r. r >>= f) h
stops m f error.Memory h = tt

-- what the first part is goes on to the second
pub goes : {A B : Type 0} (m : Result A BindError) (f : A → Result B BindError) (x : A) (r : Result B BindError) → m ≡ Ok x → Answers (f x) r → Answers (m >>= f) r
goes m f x r is h = subst (λ z. Answers (z >>= f) r) (sym is) h

pub also : {A : Type 0} (m n : Result A BindError) (r : Result A BindError) → m ≡ n → Answers n r → Answers m r
also m n r is h = subst (λ z. Answers z r) (sym is) h

-- a refusal that is handed on
pub told : {A : Type 0} (m r : Result A BindError) (e : BindError) → r ≡ Err e → Answers m (Err e) → Answers m r
told m r e is h = subst (λ z. Answers m z) (sym is) h
