-- Which bytes stand in names and in what is escaped.
use Rattle.std.proofs.Common.{◌≡◌, ℕ, suc, ◌+◌, ◌==◌, ◌&&◌, List, [], ◌∷◌, ◌++◌, Bool, true, false, not, nat_le, length, get_or, take, drop, Option, Some, None, refl, sym, subst, arith}
use Rattle.std.specs.List.{list_all, list_any}
use Rattle.std.proofs.lemmas.Grind.{common_steps}
use Rattle.std.proofs.lemmas.Bool.Decides.{nat_tests}
use Rattle.std.proofs.lemmas.List.Folds.{list_all-append}
use Rattle.std.proofs.lemmas.List.Quantifiers.{position-Some}
use Rattle.std.proofs.Math.Seq.{split_at}
use Rattle.name_grammar.specs.Names.{is_name, is_ncname, is_name_byte, colon_in}
use Rattle.pyx_lines.specs.Escapes.{escape, escape_byte}
use Rattle.pyx_lines.specs.Spelling.{space_in}

-- from the hyphen on, as every byte of a name is
abbrev pub is_high : ℕ → Bool
is_high b = nat_le 45 b

abbrev pub not_feed : ℕ → Bool
not_feed b = not (b == 10)

byte_high : (b : ℕ) → is_name_byte b ≡ true → is_high b ≡ true
byte_high b is = grind (arith, common_steps, nat_tests)

all_high : (name : List ℕ) → list_all is_name_byte name ≡ true → list_all is_high name ≡ true
all_high [] is = refl
all_high (b ∷ name) is = grind (arith, common_steps, all_high name, byte_high b)

pub ncname_high : (name : List ℕ) → is_ncname name ≡ true → list_all is_high name ≡ true
ncname_high [] is = absurd (cc)
ncname_high (b ∷ name) is = grind (arith, common_steps, all_high name, byte_high b)

colon_high : (name : List ℕ) (k : ℕ) → colon_in name ≡ Some k → is_ncname (take k name) && is_ncname (drop (k + 1) name) ≡ true → list_all is_high name ≡ true
colon_high name k at is =
    let found = position-Some (λ b. b == 58) name k 0 at in
    let colon : get_or name k 0 ≡ 58 = grind (arith, nat_tests, found.1) in
    let front : is_ncname (take k name) ≡ true = grind (arith, common_steps, is) in
    let back : is_ncname (drop (k + 1) name) ≡ true = grind (arith, common_steps, is) in
    let more : k + 1 ≡ suc k = omega arith in
    let last : list_all is_high (drop (suc k) name) ≡ true = rw more at (ncname_high (drop (k + 1) name) back) in
    subst (λ (bytes : List ℕ). list_all is_high bytes ≡ true) (sym (split_at name k 0 found.0))
    (rw (list_all-append is_high (take k name) (get_or name k 0 ∷ drop (suc k) name), ncname_high (take k name) front, colon, last) refl)

name_high_by : (name : List ℕ) (colon : Option ℕ) → colon_in name ≡ colon → is_name name ≡ true → list_all is_high name ≡ true
name_high_by name None at is = ncname_high name (rw at at is)
name_high_by name (Some k) at is = colon_high name k at (rw at at is)

pub name_high : (name : List ℕ) → is_name name ≡ true → list_all is_high name ≡ true
name_high name is = name_high_by name (colon_in name) refl is

-- where the first space stands, after bytes that are none
pub first_space : (bytes more : List ℕ) → list_all is_high bytes ≡ true → space_in (bytes ++ 32 ∷ more) ≡ Some (length bytes)
first_space [] more is = grind (arith, nat_tests)
first_space (b ∷ bytes) more is = grind (arith, common_steps, nat_tests, first_space bytes more)

pub high_no_space : (bytes : List ℕ) → list_all is_high bytes ≡ true → space_in bytes ≡ None
high_no_space [] is = refl
high_no_space (b ∷ bytes) is = grind (arith, common_steps, nat_tests, high_no_space bytes)

-- a list has a space exactly where its first one stands somewhere
pub no_space : (bytes : List ℕ) → list_any (λ b. b == 32) bytes ≡ false → space_in bytes ≡ None
no_space [] is = refl
no_space (b ∷ bytes) is = grind (arith, common_steps, nat_tests, no_space bytes)

pub spaceless : (bytes : List ℕ) → space_in bytes ≡ None → list_any (λ b. b == 32) bytes ≡ false
spaceless [] is = refl
spaceless (b ∷ bytes) is = grind (arith, common_steps, nat_tests, spaceless bytes)

pub high_not_feed : (bytes : List ℕ) → list_all is_high bytes ≡ true → list_all not_feed bytes ≡ true
high_not_feed [] is = refl
high_not_feed (b ∷ bytes) is = grind (arith, common_steps, nat_tests, high_not_feed bytes)

escaped_byte_not_feed : (b : ℕ) → list_all not_feed (escape_byte b) ≡ true
escaped_byte_not_feed b = grind (arith, common_steps, nat_tests)

pub escaped_not_feed : (value : List ℕ) → list_all not_feed (escape value) ≡ true
escaped_not_feed [] = refl
escaped_not_feed (b ∷ value) = rw (list_all-append not_feed (escape_byte b) (escape value), escaped_byte_not_feed b, escaped_not_feed value) refl
