-- A name whose first colon stands somewhere is two NCNames that it joins.
use Rattle.std.proofs.Common.{◌≡◌, ℕ, ◌+◌, suc, List, [], ◌∷◌, ◌++◌, Bool, true, ◌&&◌, ◌==◌, not, IsTrue, take, drop, length, get_or, Option, Some, None, refl, arith, subst, sym}
use Rattle.std.specs.List.{list_all}
use Rattle.std.proofs.lemmas.Grind.{common_steps}
use Rattle.std.proofs.lemmas.Bool.Decides.{nat_tests}
use Rattle.std.proofs.lemmas.List.Quantifiers.{position-Some}
use Rattle.std.proofs.Math.Seq.{split_at, take-append_seam, drop-append-add}
use Rattle.name_grammar.specs.Names.{is_name_byte, is_ncname, is_name, IsName, one_ncname, two_ncnames, colon_in}

-- a byte of a name that is no colon
abbrev not_colon : ℕ → Bool
not_colon b = not (b == 58)

-- where the first colon stands, after bytes that are none
first_colon : (prefix local : List ℕ) → list_all not_colon prefix ≡ true → colon_in (prefix ++ 58 ∷ local) ≡ Some (length prefix)
first_colon [] local is = grind (arith, nat_tests)
first_colon (b ∷ prefix) local is = grind (arith, common_steps, first_colon prefix local)

no_colon : (name : List ℕ) → list_all not_colon name ≡ true → colon_in name ≡ None
no_colon [] is = refl
no_colon (b ∷ name) is = grind (arith, common_steps, nat_tests, no_colon name)

plain : (b : ℕ) → is_name_byte b ≡ true → not_colon b ≡ true
plain b is = grind (arith, common_steps, nat_tests)

all_plain : (name : List ℕ) → list_all is_name_byte name ≡ true → list_all not_colon name ≡ true
all_plain [] is = refl
all_plain (b ∷ name) is = grind (arith, common_steps, all_plain name, plain b)

ncname_plain : (name : List ℕ) → is_ncname name ≡ true → list_all not_colon name ≡ true
ncname_plain [] is = absurd (cc)
ncname_plain (b ∷ name) is = grind (arith, common_steps, all_plain name, plain b)

split_by : (name : List ℕ) (k : ℕ) → colon_in name ≡ Some k → is_ncname (take k name) && is_ncname (drop (k + 1) name) ≡ true → IsName name
split_by name k at is =
    let found = position-Some (λ b. b == 58) name k 0 at in
    let colon : get_or name k 0 ≡ 58 = grind (arith, nat_tests, found.1) in
    let front : is_ncname (take k name) ≡ true = grind (arith, common_steps, is) in
    let back : is_ncname (drop (k + 1) name) ≡ true = grind (arith, common_steps, is) in
    let more : k + 1 ≡ suc k = omega arith in
    subst IsName (sym (split_at name k 0 found.0)) (rw colon (two_ncnames (take k name) (drop (suc k) name) front (rw more at back)))

name_by : (name : List ℕ) (colon : Option ℕ) → colon_in name ≡ colon → is_name name ≡ true → IsName name
name_by name None at is = one_ncname name (rw at at is)
name_by name (Some k) at is = split_by name k at (rw at at is)

-- what the test by the first colon takes is one NCName or two
pub is_a_name : (name : List ℕ) → IsTrue (is_name name) → IsName name
is_a_name name is = name_by name (colon_in name) refl is

-- the test takes one NCName, and two that a colon joins
pub name_is : (name : List ℕ) → IsName name → IsTrue (is_name name)
name_is _ (one_ncname name is) = rw (no_colon name (ncname_plain name is)) is
name_is _ (two_ncnames prefix local front back) =
    rw (first_colon prefix local (ncname_plain prefix front), take-append_seam prefix (58 ∷ local), drop-append-add prefix (58 ∷ local) 1, front, back) refl
