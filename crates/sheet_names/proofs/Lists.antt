-- Names by their keys, and lists of names that grow at the end.
use Rattle.std.proofs.Common.{◌≡◌, refl, sym, ap, ◌∙◌, subst, ℕ, ◌+◌, ◌≤◌, arith, List, [], ◌∷◌, ◌++◌, length, map, take, length-append}
use Rattle.std.proofs.Common.{Bool, true, false, Option, Some, None, if◌then◌else◌}
use Rattle.std.specs.Prelude.{◌||◌, not, cond, nat_lt, position}
use Rattle.std.specs.List.{list_any, position_or_len}
use Rattle.std.proofs.lemmas.List.{length-map, map-append, take-append-le}
use Rattle.xpath_syntax.specs.declared.expression.NameRef.{NameRef}
use Rattle.sheet_reading.specs.declared.tree.Item.{Item}
use Rattle.sheet_reading.specs.declared.tree.Item.TheViews.{out-Item}
use Rattle.sheet_reading.specs.declared.tree.Item.TheOpen.{Item-F}
use Rattle.sheet_reading.specs.declared.tree.Judged.{Judged}
use Rattle.sheet_names.specs.declared.name_set.ExpandedName.{ExpandedName}
use Rattle.sheet_names.specs.Declaring.{variable_name}
use Rattle.sheet_names.specs.Keys.{name_of_key}
use Rattle.sheet_names.specs.Judging.{behind}
use Rattle.sheet_names.specs.Names.{Name, expanded, same_name, with_name, with_some}

-- a test of items is one of what they stand for
pub any_stands : {A B : Type 0} (f : A → B) (p : A → Bool) (q : B → Bool) → ((x : A) → p x ≡ q (f x)) → (xs : List A) → list_any p xs ≡ list_any q (map f xs)
any_stands f p q same [] = refl
any_stands f p q same (x ∷ xs) = ap (λ b. b || list_any p xs) (same x) ∙ ap (λ b. q (f x) || b) (any_stands f p q same xs)

first_stands : {A B : Type 0} (f : A → B) (p : A → Bool) (q : B → Bool) → ((x : A) → p x ≡ q (f x)) → (xs : List A) → position_or_len p xs ≡ position_or_len q (map f xs)
first_stands f p q same [] = refl
first_stands f p q same (x ∷ xs) = ap (λ b. cond (not b) (1 + position_or_len p xs) 0) (same x) ∙ ap (λ n. cond (not (q (f x))) (1 + n) 0) (first_stands f p q same xs)

pub place_stands : {A B : Type 0} (f : A → B) (p : A → Bool) (q : B → Bool) → ((x : A) → p x ≡ q (f x)) → (xs : List A) → position p xs ≡ position q (map f xs)
place_stands f p q same xs = ap (λ n. cond (nat_lt n (length xs)) (Some n) None) (first_stands f p q same xs)
    ∙ ap (λ k. cond (nat_lt (position_or_len q (map f xs)) k) (Some (position_or_len q (map f xs))) None) (sym (length-map xs f))

-- a key is added where its name is new
pub stands_with : (key : ExpandedName) (x : Name) (keys : List ExpandedName) (p : ExpandedName → Bool) → name_of_key key ≡ x → ((k : ExpandedName) → p k ≡ same_name x (name_of_key k))
    → map name_of_key (if list_any p keys then keys else keys ++ key ∷ []) ≡ with_name (map name_of_key keys) x
stands_with key x keys p is same = by (list_any p keys) (list_any (same_name x) (map name_of_key keys)) (any_stands name_of_key p (same_name x) same keys)
  where
    by : (a b : Bool) → a ≡ b → map name_of_key (if a then keys else keys ++ key ∷ []) ≡ (if b then map name_of_key keys else map name_of_key keys ++ x ∷ [])
    by true true e = refl
    by true false e = cc
    by false true e = cc
    by false false e = map-append name_of_key keys (key ∷ []) ∙ ap (λ (y : Name). map name_of_key keys ++ y ∷ []) is

pub longer : (names : List Name) (x : Name) → length names ≤ length (with_name names x)
longer names x = by (list_any (same_name x) names)
  where
    by : (b : Bool) → length names ≤ length (if b then names else names ++ x ∷ [])
    by true = omega arith
    by false = omega (arith, length-append names (x ∷ []))

pub longer_some : (names : List Name) (name : Option NameRef) → length names ≤ length (with_some names name)
longer_some names None = omega arith
longer_some names (Some name) = longer names (expanded name)

pub keeps : (names : List Name) (x : Name) (k : ℕ) → k ≤ length names → take k (with_name names x) ≡ take k names
keeps names x k h = by (list_any (same_name x) names)
  where
    by : (b : Bool) → take k (if b then names else names ++ x ∷ []) ≡ take k names
    by true = refl
    by false = rw take-append-le

pub keeps_some : (names : List Name) (name : Option NameRef) (k : ℕ) → k ≤ length names → take k (with_some names name) ≡ take k names
keeps_some names None k h = refl
keeps_some names (Some name) k h = keeps names (expanded name) k h

-- the locals behind a node
pub longer_behind : (names : List Name) (i : Item) → length names ≤ length (behind names i)
longer_behind names i = by (out-Item i)
  where
    by : (y : Item-F Item Judged) → length names ≤ length {A = Name} (elim y [ Item-F.Text text ↦ names | Item-F.Element e ↦ with_some names (variable_name e) ])
    by (Item-F.Text text) = omega arith
    by (Item-F.Element e) = longer_some names (variable_name e)

pub keeps_behind : (names : List Name) (i : Item) (k : ℕ) → k ≤ length names → take k (behind names i) ≡ take k names
keeps_behind names i k h = by (out-Item i)
  where
    by : (y : Item-F Item Judged) → take k (elim y [ Item-F.Text text ↦ names | Item-F.Element e ↦ with_some names (variable_name e) ]) ≡ take k names
    by (Item-F.Text text) = refl
    by (Item-F.Element e) = keeps_some names (variable_name e) k h

pub longer_after : (k : ℕ) (before between after : List Name) (i : Item) → k ≤ length before → between ≡ before → after ≡ behind between i → k ≤ length after
longer_after k before between after i h kept entered =
    let l = longer_behind before i in
    subst (λ (names : List Name). k ≤ length names) (sym (entered ∙ ap (λ (names : List Name). behind names i) kept)) (omega (arith, l, h))

pub same_after : (k : ℕ) (first before between after : List Name) (i : Item) → k ≤ length before → take k before ≡ first → between ≡ before → after ≡ behind between i
    → take k after ≡ first
same_after k first before between after i h same kept entered =
    ap (take k) (entered ∙ ap (λ (names : List Name). behind names i) kept) ∙ keeps_behind before i k h ∙ same
