-- Keys of texts and the names that they spell.
use Rattle.std.proofs.Common.{◌≡◌, ◌↔◌, ℕ, zero, suc, ◌+◌, ◌-◌, ◌<◌, List, [], ◌∷◌, ◌++◌, length, map, Option, None, Some, refl, sym, ap, subst, ◌∙◌, arith, ⊎_elim}
use Rattle.std.specs.Prelude.{slice_get, IfSome, IfNone}
use Rattle.std.specs.Option.{option_map}
use Rattle.std.proofs.lemmas.Option.{slice_get_within, slice_get-get_or, get_or_from_slice_get, slice_get-map, same_Some, none-some}
use Rattle.doc_model.specs.declared.row.Kind.{Kind}
use Rattle.doc_model.specs.declared.row.Kind.TheVariants.{Root, Element, Attribute, Text, Instruction, Comment}
use Rattle.doc_model.specs.Numbers.{kind_number}
use Rattle.name_pool.specs.Names.{Name, Pool, IsTypeNumber}
use Rattle.name_pool.specs.Numbers.{IsNew, Keeps, NoRepeats}
use Rattle.name_pool.specs.Holds.{kind_of, name_of, Spells, IsKey}
use Rattle.name_pool.specs.declared.type_numbers.TypeKey.{TypeKey}
use Rattle.name_pool.proofs.Numbering.{pushed}

pub of_number : (kind : Kind) → kind_of (kind_number kind) ≡ kind
of_number Root = refl
of_number Element = refl
of_number Attribute = refl
of_number Text = refl
of_number Instruction = refl
of_number Comment = refl

abbrev pub AllSpell : List (List ℕ) → List TypeKey → Type 0
AllSpell texts keys = (k : ℕ) (key : TypeKey) → slice_get keys k ≡ Some key → Spells texts key

module _ (texts : List (List ℕ)) where
  -- the key of a kind and the numbers of two texts
  pub key_spells : (kind : Kind) (uri local : List ℕ) (u l : ℕ) → slice_get texts u ≡ Some uri → slice_get texts l ≡ Some local
      → IsKey texts (record { kind = kind_number kind; uri = u; local = l }) (record { kind = kind; uri = uri; local = local })
  key_spells kind uri local u l e f = (
    record { kind = ap kind_number (of_number kind); uri = slice_get_within texts u uri e; local = slice_get_within texts l local f },
    λ i. record { kind = of_number kind i; uri = get_or_from_slice_get texts u uri [] e i; local = get_or_from_slice_get texts l local [] f i },
  )

  module _ (key : TypeKey) (name : Name) (is : IsKey texts key name) where
    pub its_kind : key.kind ≡ kind_number name.kind
    its_kind = sym is.0.kind ∙ ap (λ (n : Name). kind_number n.kind) is.1

    pub its_uri : slice_get texts key.uri ≡ Some name.uri
    its_uri = slice_get-get_or texts key.uri [] is.0.uri ∙ ap (λ (n : Name). Some n.uri) is.1

    pub its_local : slice_get texts key.local ≡ Some name.local
    its_local = slice_get-get_or texts key.local [] is.0.local ∙ ap (λ (n : Name). Some n.local) is.1

  module _ (more : List (List ℕ)) (keeps : Keeps texts more) where
    pub key_kept : (key : TypeKey) (name : Name) → IsKey texts key name → IsKey more key name
    key_kept key name is =
        let u = keeps name.uri key.uri (its_uri key name is) in
        let l = keeps name.local key.local (its_local key name is) in (
          record { kind = is.0.kind; uri = slice_get_within more key.uri name.uri u; local = slice_get_within more key.local name.local l },
          λ i. record { kind = ap (λ (n : Name). n.kind) is.1 i; uri = get_or_from_slice_get more key.uri name.uri [] u i; local = get_or_from_slice_get more key.local name.local [] l i },
        )

    pub spelled_kept : (keys : List TypeKey) → AllSpell texts keys → AllSpell more keys
    spelled_kept keys h k key e = (key_kept key (name_of texts key) (h k key e, refl)).0

    pub names_kept : (keys : List TypeKey) → AllSpell texts keys → map (name_of more) keys ≡ map (name_of texts) keys
    names_kept [] h = refl
    names_kept (key ∷ keys) h = λ i. (key_kept key (name_of texts key) (h 0 key refl, refl)).1 i ∷ names_kept keys (λ k. h (suc k)) i

-- an item of a list that is mapped is one of the list
pub mapped : {A B : Type 0} (f : A → B) (xs : List A) (k : ℕ) (y : B) → slice_get (map f xs) k ≡ Some y → (x : A) × (slice_get xs k ≡ Some x) × (f x ≡ y)
mapped f [] k y e = absurd (none-some y e)
mapped f (x ∷ xs) zero y e = (x, refl, same_Some (f x) y e)
mapped f (x ∷ xs) (suc k) y e = mapped f xs k y e

pub no_repeats_push : {X : Type 0} (xs : List X) (y : X) → NoRepeats xs → IsNew xs y → NoRepeats (xs ++ y ∷ [])
no_repeats_push xs y h new x j k e f =
    ⊎_elim
    (λ a. ⊎_elim (λ b. h x j k a b) (λ b. absurd (new j (a ∙ ap Some b.1))) (pushed xs y x k f))
    (λ a. ⊎_elim (λ b. absurd (new k (b ∙ ap Some a.1))) (λ b. a.0 ∙ sym b.0) (pushed xs y x k f))
    (pushed xs y x j e)

module _ (texts : List (List ℕ)) (keys : List TypeKey) (name : Name) where
  -- the key of the name at a position
  pub record Keyed (k : ℕ) : Type 0 where
    pub key : TypeKey
    pub at : slice_get keys k ≡ Some key
    pub is : IsKey texts key name

  pub its_key : AllSpell texts keys → (k : ℕ) → slice_get (map (name_of texts) keys) k ≡ Some name → Keyed k
  its_key h k e = let it = mapped (name_of texts) keys k name e in record { key = it.0; at = it.1; is = (h k it.0 it.1, it.2) }

  pub its_name : (k : ℕ) (key : TypeKey) → slice_get keys k ≡ Some key → IsKey texts key name → slice_get (map (name_of texts) keys) k ≡ Some name
  its_name k key e is = slice_get-map (name_of texts) keys k ∙ ap (option_map (name_of texts)) e ∙ ap Some is.1

  -- a new name's key is new
  pub new_key : AllSpell texts keys → (key : TypeKey) → IsKey texts key name → IsNew (map (name_of texts) keys) name → IsNew keys key
  new_key h key is new k e = new k (its_name k key e is)

-- a name whose number is not known is new
pub new_from_none : (pool : Pool) (name : Name) → ((n : ℕ) → IsTypeNumber pool n name → ⊥) → IsNew pool.names name
new_from_none pool name h k e = h (k + 3) (omega arith, subst (λ j. slice_get pool.names j ≡ Some name) (omega arith) e)

pub tell : (pool : Pool) → NoRepeats pool.names → (m n : ℕ) (a b : Name) → IsTypeNumber pool m a → IsTypeNumber pool n b → (m ≡ n) ↔ (a ≡ b)
tell pool h m n a b p q = (
  (λ e. same_Some a b (sym p.1 ∙ ap (λ k. slice_get pool.names (k - 3)) e ∙ q.1)),
  λ e. let same = h b (m - 3) (n - 3) (p.1 ∙ ap Some e) q.1 in omega (arith, p.0, q.0, same),
)

pub tell_prefixes : (prefixes : List (List ℕ)) → NoRepeats ([] ∷ prefixes) → (m n : ℕ) (a b : List ℕ) → slice_get ([] ∷ prefixes) m ≡ Some a → slice_get ([] ∷ prefixes) n ≡ Some b → (m ≡ n) ↔ (a ≡ b)
tell_prefixes prefixes h m n a b p q = (
  (λ e. same_Some a b (sym p ∙ ap (slice_get ([] ∷ prefixes)) e ∙ q)),
  λ e. h b m n (p ∙ ap Some e) q,
)

pub within_some : {X : Type 0} (r : Option ℕ) (xs : List X) (x : X) → ((k : ℕ) → (r ≡ Some k) ↔ (slice_get xs k ≡ Some x)) → IfSome r (λ k. k < length xs)
within_some None xs x h = tt
within_some (Some k) xs x h = slice_get_within xs k x ((h k).0 refl)

pub typed : (pool : Pool) (k : ℕ) (name : Name) → slice_get pool.names k ≡ Some name → IsTypeNumber pool (k + 3) name
typed pool k name e = (omega arith, subst (λ j. slice_get pool.names j ≡ Some name) (omega arith) e)

module _ (pool : Pool) (name : Name) (r : Option ℕ) (none : r ≡ None) (h : (n : ℕ) → IsTypeNumber pool n name → ⊥) where
  pub absent : (n : ℕ) → (r ≡ Some n) ↔ IsTypeNumber pool n name
  absent n = ((λ e. absurd (none-some n (sym none ∙ e))), λ is. absurd (h n is))

  pub absent_new : IfNone r (IsNew pool.names name)
  absent_new = subst (λ o. IfNone o (IsNew pool.names name)) (sym none) (new_from_none pool name h)

pub empty_number : (prefixes : List (List ℕ)) → NoRepeats ([] ∷ prefixes) → (text : List ℕ) → text ≡ [] → (n : ℕ) → (Some 0 ≡ Some n) ↔ (slice_get ([] ∷ prefixes) n ≡ Some text)
empty_number prefixes h text t n = (
  (λ e. subst (λ k. slice_get ([] ∷ prefixes) k ≡ Some text) (same_Some 0 n e) (ap Some (sym t))),
  λ e. ap Some (h [] 0 n refl (e ∙ ap Some t)),
)

pub no_item : {X : Type 0} (xs : List X) → length xs ≡ 0 → xs ≡ []
no_item [] e = refl
no_item (x ∷ xs) e = absurd (omega (arith, e))
