-- What an index knows, as more is kept.
use Rattle.std.proofs.Common.{◌≡◌, ◌↔◌, ◌⊎◌, inl, inr, ℕ, ◌<◌, List, [], length, get_or, Option, Some, None, refl, sym, ap, subst, ◌∙◌, ⊎_elim}
use Rattle.std.specs.Prelude.{slice_get}
use Rattle.std.proofs.lemmas.Option.{same_Some, none-some, slice_get_within, slice_get-get_or}
use Rattle.doc_model.specs.declared.row.Kind.{Kind}
use Rattle.doc_model.specs.Numbers.{kind_number}
use Rattle.name_pool.specs.Numbers.{Keeps}
use Rattle.name_pool.specs.Holds.{kind_of}
use Rattle.name_pool.specs.Known.{Index, Knows, number_at}
use Rattle.name_pool.specs.declared.type_numbers.TypeKey.{TypeKey}
use Rattle.name_pool.proofs.Names.{of_number}
use Rattle.name_pool.proofs.Numbering.{Puts}

abbrev key_of : Kind → ℕ → ℕ → TypeKey
key_of kind uri local = record { kind = kind_number kind; uri = uri; local = local }

-- each key's local name is among these
abbrev pub AreThere : List (TypeKey × ℕ) → List (List ℕ) → Type 0
AreThere types locals = (key : TypeKey) (n : ℕ) → number_at types key ≡ Some n → key.local < length locals

-- where the local name isn't there, nothing is known
pub unknown : (index : Index) (kind : Kind) (uri : ℕ) (local : List ℕ) (r : Option ℕ) → r ≡ None → ((k : ℕ) → slice_get index.locals k ≡ Some local → ⊥) → (n : ℕ)
    → (r ≡ Some n) ↔ Knows index kind uri local n
unknown index kind uri local r none absent n = ((λ e. absurd (none-some n (sym none ∙ e))), λ is. absurd (absent is.0 is.1))

-- what stands at the key of a local name that is there
pub at_key : (index : Index) (kind : Kind) (uri : ℕ) (local : List ℕ) (found at : ℕ) (r : Option ℕ) → ((k : ℕ) → (Some found ≡ Some k) ↔ (slice_get index.locals k ≡ Some local)) → found ≡ at
    → r ≡ number_at index.types (key_of kind uri at) → (n : ℕ) → (r ≡ Some n) ↔ Knows index kind uri local n
at_key index kind uri local found at r h same is n = (
  (λ e. (at, (h at).0 (ap (λ k. Some k) same), sym is ∙ e)),
  λ knows.
      let there : at ≡ knows.0 = sym same ∙ same_Some found knows.0 ((h knows.0).1 knows.1) in
      is ∙ ap (λ k. number_at index.types (key_of kind uri k)) there ∙ knows.2,
)

-- more local names
pub there_kept : (types : List (TypeKey × ℕ)) (locals more : List (List ℕ)) → Keeps locals more → AreThere types locals → AreThere types more
there_kept types locals more keeps there key n e =
    let within = there key n e in
    slice_get_within more key.local _ (keeps _ key.local (slice_get-get_or locals key.local [] within))

pub more_known : (types : List (TypeKey × ℕ)) (locals more : List (List ℕ)) → Keeps locals more → AreThere types locals → (kind : Kind) (uri : ℕ) (text : List ℕ) (n : ℕ)
    → Knows (record { locals = more; types = types }) kind uri text n → Knows (record { locals = locals; types = types }) kind uri text n
more_known types locals more keeps there kind uri text n knows =
    let within : knows.0 < length locals = there (key_of kind uri knows.0) n knows.2 in
    let old = slice_get-get_or locals knows.0 [] within in
    let same : get_or locals knows.0 [] ≡ text = same_Some _ _ (sym (keeps _ knows.0 old) ∙ knows.1) in
    (knows.0, old ∙ ap (λ (x : List ℕ). Some x) same, knows.2)

pub still_known : (types : List (TypeKey × ℕ)) (locals more : List (List ℕ)) → Keeps locals more → (kind : Kind) (uri : ℕ) (text : List ℕ) (n : ℕ)
    → Knows (record { locals = locals; types = types }) kind uri text n → Knows (record { locals = more; types = types }) kind uri text n
still_known types locals more keeps kind uri text n knows = (knows.0, keeps text knows.0 knows.1, knows.2)

-- one more key
pub there_put : (types next : List (TypeKey × ℕ)) (locals : List (List ℕ)) (key : TypeKey) (v : ℕ) → Puts (number_at types) (number_at next) key v → key.local < length locals
    → AreThere types locals → AreThere next locals
there_put types next locals key v puts within there other n e =
    ⊎_elim
    (λ same. subst (λ (it : TypeKey). it.local < length locals) (sym same.0) within)
    (λ else. there other n (sym else.1 ∙ e))
    (puts other)

kind_told : (a b : Kind) → kind_number a ≡ kind_number b → a ≡ b
kind_told a b e = sym (of_number a) ∙ ap kind_of e ∙ of_number b

-- the same name as the one that was kept
abbrev IsKept : Kind → ℕ → List ℕ → Kind → ℕ → List ℕ → Type 0
IsKept k u text kind uri local = (k ≡ kind) × (u ≡ uri) × (text ≡ local)

kept_key : (locals : List (List ℕ)) (kind : Kind) (uri at : ℕ) (local : List ℕ) (k : Kind) (u place : ℕ) (text : List ℕ) → slice_get locals at ≡ Some local → slice_get locals place ≡ Some text
    → key_of k u place ≡ key_of kind uri at → IsKept k u text kind uri local
kept_key locals kind uri at local k u place text p q same = (
  kind_told k kind (ap (λ (it : TypeKey). it.kind) same),
  ap (λ (it : TypeKey). it.uri) same,
  same_Some text local (sym q ∙ ap (slice_get locals) (ap (λ (it : TypeKey). it.local) same) ∙ p),
)

module _ (types next : List (TypeKey × ℕ)) (locals : List (List ℕ)) (kind : Kind) (uri at : ℕ) (local : List ℕ) (v : ℕ) (here : slice_get locals at ≡ Some local)
    (puts : Puts (number_at types) (number_at next) (key_of kind uri at) v) where
  pub put_kept : Knows (record { locals = locals; types = next }) kind uri local v
  put_kept = ⊎_elim (λ same. (at, here, same.1)) (λ else. absurd (else.0 refl)) (puts (key_of kind uri at))

  pub put_only : (k : Kind) (u : ℕ) (text : List ℕ) (n : ℕ) → Knows (record { locals = locals; types = next }) k u text n
      → Knows (record { locals = locals; types = types }) k u text n ⊎ ((k ≡ kind) × (u ≡ uri) × (text ≡ local) × (n ≡ v))
  put_only k u text n knows =
      ⊎_elim
      (λ same. let it = kept_key locals kind uri at local k u knows.0 text here knows.1 same.0 in inr (it.0, it.1, it.2, same_Some n v (sym knows.2 ∙ same.1)))
      (λ else. inl (knows.0, knows.1, sym else.1 ∙ knows.2))
      (puts (key_of k u knows.0))

  pub put_others : (k : Kind) (u : ℕ) (text : List ℕ) (n : ℕ) → Knows (record { locals = locals; types = types }) k u text n
      → Knows (record { locals = locals; types = next }) k u text n ⊎ IsKept k u text kind uri local
  put_others k u text n knows =
      ⊎_elim
      (λ same. inr (kept_key locals kind uri at local k u knows.0 text here knows.1 same.0))
      (λ else. inl (knows.0, knows.1, else.1 ∙ knows.2))
      (puts (key_of k u knows.0))
