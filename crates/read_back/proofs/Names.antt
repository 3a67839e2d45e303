-- Names as they are written, taken apart again.
use Rattle.std.proofs.Common.{◌≡◌, ℕ, ◌==◌, ◌||◌, List, [], ◌∷◌, ◌++◌, Bool, true, false, not, nat_lt, IsTrue, IsUtf8, length}
use Rattle.std.proofs.Common.{Some, None, codes, refl, sym, ap, ◌∙◌, arith}
use Rattle.std.specs.List.{list_all}
use Rattle.std.specs.Str.{bytes_eq, is_utf8}
use Rattle.std.proofs.lemmas.Grind.{common_steps}
use Rattle.std.proofs.lemmas.Bool.{and_parts, ltb-true, false_from_ne_true}
use Rattle.std.proofs.lemmas.Bool.Decides.{nat_tests}
use Rattle.std.proofs.lemmas.Slice.Eq.{bytes_eq-Decides}
use Rattle.std.proofs.lemmas.Str.{IsUtf8-append, IsUtf8-nil, IsUtf8-from_is_utf8, is_utf8-from_IsUtf8}
use Rattle.std.proofs.Math.Seq.{take-append_seam, drop-append-add}
use Rattle.name_grammar.specs.Names.{is_name_byte, is_ncname, is_name, one_ncname, two_ncnames, colon_in, prefix_of, local_of}
use Rattle.name_grammar.proofs.Joined.{name_is}
use Rattle.pyx_lines.proofs.Utf8.{ascii_then}
use Rattle.pyx_events.specs.Before.{declared_prefix, is_declaration}
use Rattle.pyx_output.specs.Declaring.{qualified, declaration_name}
use Rattle.read_back.specs.Legible.{is_part}

abbrev not_colon : ℕ → Bool
not_colon b = not (b == 58)

first_colon : (prefix local : List ℕ) → list_all not_colon prefix ≡ true → colon_in (prefix ++ 58 ∷ local) ≡ Some (length prefix)
first_colon [] local is = grind (arith, nat_tests)
first_colon (b ∷ prefix) local is = grind (arith, common_steps, first_colon prefix local)

no_colon : (name : List ℕ) → list_all not_colon name ≡ true → colon_in name ≡ None
no_colon [] is = refl
no_colon (b ∷ name) is = grind (arith, common_steps, nat_tests, no_colon name)

plain : (b : ℕ) → is_name_byte b ≡ true → not_colon b ≡ true
plain b is = grind (arith, common_steps, nat_tests)

all_plain : (name : List ℕ) → list_all is_name_byte name ≡ true → list_all not_colon name ≡ true
all_plain [] is = refl
all_plain (b ∷ name) is = grind (arith, common_steps, all_plain name, plain b)

ncname_plain : (name : List ℕ) → is_ncname name ≡ true → list_all not_colon name ≡ true
ncname_plain [] is = absurd (cc)
ncname_plain (b ∷ name) is = grind (arith, common_steps, all_plain name, plain b)

joined_prefix : (prefix local : List ℕ) → is_ncname prefix ≡ true → prefix_of (prefix ++ 58 ∷ local) ≡ prefix
joined_prefix prefix local is = rw (first_colon prefix local (ncname_plain prefix is), take-append_seam prefix (58 ∷ local)) refl

joined_local : (prefix local : List ℕ) → is_ncname prefix ≡ true → local_of (prefix ++ 58 ∷ local) ≡ local
joined_local prefix local is = rw (first_colon prefix local (ncname_plain prefix is), drop-append-add prefix (58 ∷ local) 1) refl

-- no prefix, or an NCName
abbrev pub is_prefix : List ℕ → Bool
is_prefix prefix = length prefix == 0 || is_part prefix

prefix_ncname : (b : ℕ) (prefix : List ℕ) → is_prefix (b ∷ prefix) ≡ true → is_ncname (b ∷ prefix) ≡ true
prefix_ncname b prefix is = (and_parts (is_ncname (b ∷ prefix)) (is_utf8 (b ∷ prefix)) (grind (arith, nat_tests, is))).0

prefix_utf8 : (b : ℕ) (prefix : List ℕ) → is_prefix (b ∷ prefix) ≡ true → is_utf8 (b ∷ prefix) ≡ true
prefix_utf8 b prefix is = (and_parts (is_ncname (b ∷ prefix)) (is_utf8 (b ∷ prefix)) (grind (arith, nat_tests, is))).1

pub qualified_prefix : (prefix local : List ℕ) → is_prefix prefix ≡ true → is_ncname local ≡ true → prefix_of (qualified prefix local) ≡ prefix
qualified_prefix [] local is name = rw (no_colon local (ncname_plain local name)) refl
qualified_prefix (b ∷ prefix) local is name = joined_prefix (b ∷ prefix) local (prefix_ncname b prefix is)

pub qualified_local : (prefix local : List ℕ) → is_prefix prefix ≡ true → is_ncname local ≡ true → local_of (qualified prefix local) ≡ local
qualified_local [] local is name = rw (no_colon local (ncname_plain local name)) refl
qualified_local (b ∷ prefix) local is name = joined_local (b ∷ prefix) local (prefix_ncname b prefix is)

pub qualified_name : (prefix local : List ℕ) → is_prefix prefix ≡ true → is_ncname local ≡ true → IsTrue (is_name (qualified prefix local))
qualified_name [] local is name = name_is local (one_ncname local name)
qualified_name (b ∷ prefix) local is name = name_is (b ∷ prefix ++ 58 ∷ local) (two_ncnames (b ∷ prefix) local (prefix_ncname b prefix is) name)

joined_utf8 : (prefix local : List ℕ) → is_utf8 prefix ≡ true → is_utf8 local ≡ true → is_utf8 (prefix ++ 58 ∷ local) ≡ true
joined_utf8 prefix local one two =
    is_utf8-from_IsUtf8 (prefix ++ 58 ∷ local) (IsUtf8-append prefix (58 ∷ local) (IsUtf8-from_is_utf8 prefix one) (ascii_then 58 local (omega arith) (IsUtf8-from_is_utf8 local two)))

pub qualified_utf8 : (prefix local : List ℕ) → is_prefix prefix ≡ true → is_utf8 local ≡ true → is_utf8 (qualified prefix local) ≡ true
qualified_utf8 [] local is text = text
qualified_utf8 (b ∷ prefix) local is text = joined_utf8 (b ∷ prefix) local (prefix_utf8 b prefix is) text

-- a name with a colon is not `xmlns`
apart : (prefix local : List ℕ) → is_ncname prefix ≡ true → bytes_eq (prefix ++ 58 ∷ local) (codes "xmlns") ≡ false
apart prefix local is = false_from_ne_true (bytes_eq (prefix ++ 58 ∷ local) (codes "xmlns")) (λ same.
    let equal = (bytes_eq-Decides (prefix ++ 58 ∷ local) (codes "xmlns")).0 same in
    let colon = first_colon prefix local (ncname_plain prefix is) in
    let none : colon_in (codes "xmlns") ≡ None = refl in
    let there : Some (length prefix) ≡ None = sym colon ∙ (ap colon_in equal ∙ none) in
    cc)

-- an attribute's name is no declaration, where its prefix is not `xmlns`, and without a prefix it is not `xmlns`
pub not_declared : (prefix local : List ℕ) → is_prefix prefix ≡ true → is_ncname local ≡ true → bytes_eq prefix (codes "xmlns") ≡ false
    → (length prefix == 0 ≡ true → bytes_eq local (codes "xmlns") ≡ false)
    → is_declaration (qualified prefix local) ≡ false
not_declared [] local is name other bare = rw (bare refl, no_colon local (ncname_plain local name)) refl
not_declared (b ∷ prefix) local is name other bare =
    rw (apart (b ∷ prefix) local (prefix_ncname b prefix is), joined_prefix (b ∷ prefix) local (prefix_ncname b prefix is), other) refl

pub declares_prefix : (prefix : List ℕ) → is_prefix prefix ≡ true → declared_prefix (declaration_name prefix) ≡ Some prefix
declares_prefix [] is = refl
declares_prefix (b ∷ prefix) is =
    rw (joined_prefix (codes "xmlns") (b ∷ prefix) refl, joined_local (codes "xmlns") (b ∷ prefix) refl) refl

pub declaration_is_name : (prefix : List ℕ) → is_prefix prefix ≡ true → IsTrue (is_name (declaration_name prefix))
declaration_is_name [] is = refl
declaration_is_name (b ∷ prefix) is = name_is (codes "xmlns" ++ 58 ∷ b ∷ prefix) (two_ncnames (codes "xmlns") (b ∷ prefix) refl (prefix_ncname b prefix is))

ascii_is : (bytes : List ℕ) → list_all (λ b. nat_lt b 128) bytes ≡ true → IsUtf8 bytes
ascii_is [] is = IsUtf8-nil
ascii_is (b ∷ bytes) is = let parts = and_parts (nat_lt b 128) (list_all (λ b. nat_lt b 128) bytes) is in ascii_then b bytes (ltb-true b 128 parts.0) (ascii_is bytes parts.1)

pub ascii_utf8 : (bytes : List ℕ) → list_all (λ b. nat_lt b 128) bytes ≡ true → is_utf8 bytes ≡ true
ascii_utf8 bytes is = is_utf8-from_IsUtf8 bytes (ascii_is bytes is)

pub xmlns_utf8 : is_utf8 (codes "xmlns") ≡ true
xmlns_utf8 = ascii_utf8 (codes "xmlns") refl

pub declaration_utf8 : (prefix : List ℕ) → is_prefix prefix ≡ true → is_utf8 (declaration_name prefix) ≡ true
declaration_utf8 [] is = xmlns_utf8
declaration_utf8 (b ∷ prefix) is = joined_utf8 (codes "xmlns") (b ∷ prefix) xmlns_utf8 (prefix_utf8 b prefix is)
