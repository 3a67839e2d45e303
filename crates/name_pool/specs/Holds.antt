-- The pool that the fields of a `NamePool` stand for, and what holds of them.
use Rattle.std.specs.Prelude.{◌≡◌, ℕ, zero, suc, ◌+◌, ◌<◌, ◌≤◌, List, [], ◌∷◌, length, map, get_or, Some, slice_get}
use Rattle.doc_model.specs.declared.row.Kind.{Kind}
use Rattle.doc_model.specs.declared.row.Kind.TheVariants.{Root, Element, Attribute, Text, Instruction, Comment}
use Rattle.doc_model.specs.Numbers.{kind_number}
use Rattle.name_pool.specs.Names.{Name, Pool}
use Rattle.name_pool.specs.Numbers.{NoRepeats}
use Rattle.name_pool.specs.declared.name_pool.NamePool.TheInside.{Inside}
use Rattle.name_pool.specs.declared.type_numbers.TypeKey.{TypeKey}

-- the kind that has a number
abbrev pub kind_of : ℕ → Kind
kind_of zero = Root
kind_of (suc zero) = Element
kind_of (suc (suc zero)) = Attribute
kind_of (suc (suc (suc zero))) = Text
kind_of (suc (suc (suc (suc zero)))) = Instruction
kind_of (suc (suc (suc (suc (suc _))))) = Comment

-- the name that a key stands for
abbrev pub name_of : List (List ℕ) → TypeKey → Name
name_of texts key = record { kind = kind_of key.kind; uri = get_or texts key.uri []; local = get_or texts key.local [] }

-- the key names a kind and texts that are there
pub record Spells (texts : List (List ℕ)) (key : TypeKey) : Type 0 where
  pub kind : kind_number (kind_of key.kind) ≡ key.kind
  pub uri : key.uri < length texts
  pub local : key.local < length texts

-- the key is the name's
abbrev pub IsKey : List (List ℕ) → TypeKey → Name → Type 0
IsKey texts key name = Spells texts key × (name_of texts key ≡ name)

abbrev pub pool_of : Inside → Pool
pool_of p = record { names = map (name_of p.texts) p.types; prefixes = p.prefixes; limit = p.limit }

pub record PoolHolds (p : Inside) : Type 0 where
  pub spelled : (k : ℕ) (key : TypeKey) → slice_get p.types k ≡ Some key → Spells p.texts key
  pub names : NoRepeats (map (name_of p.texts) p.types)
  pub prefixes : NoRepeats ([] ∷ p.prefixes)
  pub within : length p.types + length p.prefixes ≤ p.limit
  pub limit : p.limit ≤ 65536
