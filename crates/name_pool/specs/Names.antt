-- Names, prefixes and their numbers.
use Rattle.std.specs.Prelude.{◌≡◌, ◌⊎◌, ℕ, ◌+◌, ◌-◌, ◌≤◌, List, [], ◌∷◌, ◌++◌, length, Some, slice_get}
use Rattle.doc_model.specs.declared.row.Kind.{Kind}
use Rattle.name_pool.specs.Numbers.{IsNew}

-- an expanded name, and the kind of row that it names
pub record Name : Type 0 where
  pub kind : Kind
  pub uri : List ℕ
  pub local : List ℕ

-- what was numbered, in order of first sight: the name at position k has type number k + 3, the prefix at position k has number k + 1
pub record Pool : Type 0 where
  pub names : List Name
  pub prefixes : List (List ℕ)
  pub limit : ℕ

-- how many types and prefixes were added
abbrev pub added : Pool → ℕ
added pool = length pool.names + length pool.prefixes

abbrev pub IsTypeNumber : Pool → ℕ → Name → Type 0
IsTypeNumber pool n name = (3 ≤ n) × (slice_get pool.names (n - 3) ≡ Some name)

-- the empty prefix has number 0
abbrev pub IsPrefixNumber : Pool → ℕ → List ℕ → Type 0
IsPrefixNumber pool n prefix = slice_get ([] ∷ pool.prefixes) n ≡ Some prefix

abbrev pub with_name : Pool → Name → Pool
with_name pool name = record { names = pool.names ++ name ∷ []; prefixes = pool.prefixes; limit = pool.limit }

abbrev pub with_prefix : Pool → List ℕ → Pool
with_prefix pool prefix = record { names = pool.names; prefixes = pool.prefixes ++ prefix ∷ []; limit = pool.limit }

-- a name that is there keeps its number and the pool stays; a new one takes the next number and stands last
abbrev pub NumbersName : Pool → Pool → Name → ℕ → Type 0
NumbersName old new name n = (IsTypeNumber old n name × (new ≡ old)) ⊎ (IsNew old.names name × (n ≡ length old.names + 3) × (new ≡ with_name old name))

abbrev pub NumbersPrefix : Pool → Pool → List ℕ → ℕ → Type 0
NumbersPrefix old new prefix n = (IsPrefixNumber old n prefix × (new ≡ old)) ⊎ (IsNew ([] ∷ old.prefixes) prefix × (n ≡ length old.prefixes + 1) × (new ≡ with_prefix old prefix))
