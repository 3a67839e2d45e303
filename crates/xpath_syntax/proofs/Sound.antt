-- The scanner's token is spelled at the front of the text.
use Rattle.std.proofs.Common.{◌≡◌, refl, sym, ap, ◌∙◌, subst, ℕ, suc, ◌+◌, ◌<◌, List, [], ◌∷◌, ◌++◌, append_assoc, append-nil, Bool, true, false, Some}
use Rattle.std.proofs.Common.{None, take, drop, get_or, length, length-append, drop-cons, arith}
use Rattle.std.specs.Prelude.{◌&&◌, ◌==◌, if◌then◌else◌, not, nat_lt, codes}
use Rattle.std.specs.Char.{is_ascii_digit}
use Rattle.std.specs.List.{prefix_len, list_all}
use Rattle.std.proofs.lemmas.Bool.{eqb-true}
use Rattle.std.proofs.lemmas.Bool.Decides.{nat_tests}
use Rattle.std.proofs.lemmas.List.Folds.{length-prefix_len}
use Rattle.std.proofs.lemmas.List.Sums.{prefix_len_stops}
use Rattle.name_grammar.specs.Names.{is_name_start, is_name_byte, is_ncname, IsName, one_ncname, two_ncnames}
use Rattle.xpath_syntax.specs.declared.form.Form.{Form}
use Rattle.xpath_syntax.specs.declared.form.Form.TheVariants as form
use Rattle.xpath_syntax.specs.declared.form.Class.{Class}
use Rattle.xpath_syntax.specs.declared.form.Class.TheVariants as class
use Rattle.xpath_syntax.specs.Forms.{is_one_of, Spells, double_quoted, single_quoted, digits, digits_point, point_digits, name, in_prefix, star}
use Rattle.xpath_syntax.specs.Forms.{variable, sign, slashes, with_equal, opening, colons, closing, points}
use Rattle.xpath_syntax.specs.Scan.{class_of_sign, class_of, begins, fraction_len, number_len, ncname_behind_colon, local_len, name_len, has_star, Cut}
use Rattle.xpath_syntax.specs.Scan.{one_or_two, cut_quoted, cut_point, cut_variable, cut_in, cut}
use Rattle.xpath_syntax.proofs.Front.{and_first, and_second, front_and_rest, front_passes, each}

-- what a byte's class says of it
abbrev Means : Class → ℕ → Type 0
Means class.Name b = is_name_start b ≡ true
Means class.Digit b = is_ascii_digit b ≡ true
Means class.Quote b = is_one_of (codes "'\"") b ≡ true
Means class.Point b = (b == 46) ≡ true
Means class.Star b = (b == 42) ≡ true
Means class.Dollar b = (b == 36) ≡ true
Means class.Slash b = (b == 47) ≡ true
Means class.Angle b = is_one_of (codes "<>") b ≡ true
Means class.Bang b = (b == 33) ≡ true
Means class.Colon b = (b == 58) ≡ true
Means class.Sign b = is_one_of (codes "|+-=") b ≡ true
Means class.Opening b = is_one_of (codes "([@,") b ≡ true
Means class.Closing b = is_one_of (codes ")]") b ≡ true
Means class.Other b = Unit {0}

pick : (b : ℕ) (x y : Class) (t : Bool) → (t ≡ true → Means x b) → Means y b → Means (if t then x else y) b
pick b x y true here later = here refl
pick b x y false here later = later

means_sign : (b : ℕ) → Means (class_of_sign b) b
means_sign b =
    pick b class.Quote _ (is_one_of (codes "'\"") b) (λ e. e)
    (pick b class.Point _ (b == 46) (λ e. e)
    (pick b class.Star _ (b == 42) (λ e. e)
    (pick b class.Dollar _ (b == 36) (λ e. e)
    (pick b class.Slash _ (b == 47) (λ e. e)
    (pick b class.Angle _ (is_one_of (codes "<>") b) (λ e. e)
    (pick b class.Bang _ (b == 33) (λ e. e)
    (pick b class.Colon _ (b == 58) (λ e. e)
    (pick b class.Sign _ (is_one_of (codes "|+-=") b) (λ e. e)
    (pick b class.Opening _ (is_one_of (codes "([@,") b) (λ e. e)
    (pick b class.Closing class.Other (is_one_of (codes ")]") b) (λ e. e) tt))))))))))

means : (b : ℕ) → Means (class_of b) b
means b = pick b class.Name _ (is_name_start b) (λ e. e) (pick b class.Digit (class_of_sign b) (is_ascii_digit b) (λ e. e) (means_sign b))

-- the token of n bytes at the front of b and bs
pub record Front (b : ℕ) (bs : List ℕ) (n : ℕ) (f : Form) : Type 0 where
  pub word : List ℕ
  pub rest : List ℕ
  pub is : bs ≡ word ++ rest
  pub len : n ≡ suc (length word)
  pub spells : Spells f (b ∷ word)

abbrev pub Sound : ℕ → List ℕ → Cut → Type 0
Sound b bs None = Unit {0}
Sound b bs (Some x) = Front b bs x.1 x.0

alone : (f : Form) (b : ℕ) (bs : List ℕ) → Spells f (b ∷ []) → Front b bs 1 f
alone f b bs s = record { word = []; rest = bs; is = refl; len = omega arith; spells = s }

pair : (f : Form) (b c : ℕ) (bs : List ℕ) → Spells f (b ∷ c ∷ []) → Front b (c ∷ bs) 2 f
pair f b c bs s = record { word = c ∷ []; rest = bs; is = refl; len = omega arith; spells = s }

by_second : (f : Form) (b c x : ℕ) (bs : List ℕ) (t : Bool) → (c == x) ≡ t → Spells f (b ∷ []) → Spells f (b ∷ x ∷ []) → Sound b (c ∷ bs) (one_or_two f t)
by_second f b c x bs true e one two = pair f b c bs (subst (λ c. Spells f (b ∷ c ∷ [])) (sym (eqb-true c x e)) two)
by_second f b c x bs false e one two = alone f b (c ∷ bs) one

sound_one_or_two : (f : Form) (b x : ℕ) (bs : List ℕ) → Spells f (b ∷ []) → Spells f (b ∷ x ∷ []) → Sound b bs (one_or_two f (begins (λ c. c == x) bs))
sound_one_or_two f b x [] one two = alone f b [] one
sound_one_or_two f b x (c ∷ bs) one two = by_second f b c x bs (c == x) refl one two

by_needed : (f : Form) (b c x : ℕ) (bs : List ℕ) (t : Bool) → (c == x) ≡ t → Spells f (b ∷ x ∷ []) → Sound b (c ∷ bs) (if t then Some (f, 2) else None)
by_needed f b c x bs true e two = pair f b c bs (subst (λ c. Spells f (b ∷ c ∷ [])) (sym (eqb-true c x e)) two)
by_needed f b c x bs false e two = tt

sound_two : (f : Form) (b x : ℕ) (bs : List ℕ) → Spells f (b ∷ x ∷ []) → Sound b bs (if begins (λ c. c == x) bs then Some (f, 2) else None)
sound_two f b x [] two = tt
sound_two f b x (c ∷ bs) two = by_needed f b c x bs (c == x) refl two

-- literals
by_close : (quote : ℕ) (bs : List ℕ) (t : Bool) → nat_lt (prefix_len (λ b. not (b == quote)) bs) (length bs) ≡ t
    → ((text : List ℕ) → list_all (λ b. not (b == quote)) text ≡ true → Spells form.Literal (quote ∷ (text ++ quote ∷ [])))
    → Sound quote bs (if t then Some (form.Literal, prefix_len (λ b. not (b == quote)) bs + 2) else None)
by_close quote bs false e spelled = tt
by_close quote bs true e spelled =
    let p : ℕ → Bool = λ b. not (b == quote) in
    let n = prefix_len p bs in
    let less : n < length bs = grind (arith, nat_tests) in
    let stop : not (get_or bs n 0 == quote) ≡ false = prefix_len_stops p bs 0 less in
    let close : get_or bs n 0 ≡ quote = grind (arith, nat_tests) in
    let behind : drop n bs ≡ quote ∷ drop (suc n) bs = drop-cons bs n 0 less ∙ ap (λ b. b ∷ drop (suc n) bs) close in
    record {
      word = take n bs ++ quote ∷ [];
      rest = drop (suc n) bs;
      is = front_and_rest n bs ∙ (ap (λ r. take n bs ++ r) behind ∙ sym (append_assoc (take n bs) (quote ∷ []) (drop (suc n) bs)));
      len = omega (arith, length-append (take n bs) (quote ∷ []), length-prefix_len p bs);
      spells = spelled (take n bs) (front_passes p bs);
    }

sound_quoted : (b : ℕ) (bs : List ℕ) → is_one_of (codes "'\"") b ≡ true → Sound b bs (cut_quoted b bs)
sound_quoted b bs e =
    each (λ b. Sound b bs (cut_quoted b bs)) (codes "'\"") b e
    (by_close 39 bs (nat_lt (prefix_len (λ b. not (b == 39)) bs) (length bs)) refl single_quoted, (by_close 34 bs (nat_lt (prefix_len (λ b. not (b == 34)) bs) (length bs)) refl double_quoted, tt))

-- the last part of a token: what is before it, and with it, is so spelled
record Tail (bs : List ℕ) (n : ℕ) (P : List ℕ → Type 0) : Type 0 where
  word : List ℕ
  rest : List ℕ
  is : bs ≡ word ++ rest
  len : n ≡ length word
  holds : P word

nothing : (bs : List ℕ) (P : List ℕ → Type 0) → P [] → Tail bs 0 P
nothing bs P holds = record { word = []; rest = bs; is = refl; len = refl; holds = holds }

-- a front and its tail
joined : (f : Form) (b : ℕ) (bs : List ℕ) (n l : ℕ) → n ≡ length (take n bs) → Tail (drop n bs) l (λ tail. Spells f (b ∷ (take n bs ++ tail))) → Front b bs (suc (n + l)) f
joined f b bs n l front T = record {
  word = take n bs ++ T.word;
  rest = T.rest;
  is = front_and_rest n bs ∙ (ap (λ r. take n bs ++ r) T.is ∙ sym (append_assoc (take n bs) T.word T.rest));
  len = omega (arith, T.len, length-append (take n bs) T.word);
  spells = T.holds;
}

-- numbers
by_point : (front : List ℕ) (x : ℕ) (bs : List ℕ) (t : Bool) → (x == 46) ≡ t → 0 < length front → list_all is_ascii_digit front ≡ true
    → Tail (x ∷ bs) (if t then suc (prefix_len is_ascii_digit bs) else 0) (λ tail. Spells form.Number (front ++ tail))
by_point front x bs false e some all = nothing (x ∷ bs) (λ tail. Spells form.Number (front ++ tail)) (subst (Spells form.Number) (sym (append-nil front)) (digits front some all))
by_point front x bs true e some all =
    let n = prefix_len is_ascii_digit bs in record {
      word = 46 ∷ take n bs;
      rest = drop n bs;
      is = ap (λ c. c ∷ bs) (eqb-true x 46 e) ∙ ap (λ r. 46 ∷ r) (front_and_rest n bs);
      len = omega (arith, length-prefix_len is_ascii_digit bs);
      holds = digits_point front (take n bs) some all (front_passes is_ascii_digit bs);
    }

fraction : (front rest : List ℕ) → 0 < length front → list_all is_ascii_digit front ≡ true → Tail rest (fraction_len rest) (λ tail. Spells form.Number (front ++ tail))
fraction front [] some all = nothing [] (λ tail. Spells form.Number (front ++ tail)) (subst (Spells form.Number) (sym (append-nil front)) (digits front some all))
fraction front (x ∷ bs) some all = by_point front x bs (x == 46) refl some all

sound_number : (b : ℕ) (bs : List ℕ) → is_ascii_digit b ≡ true → Front b bs (suc (number_len bs)) form.Number
sound_number b bs e =
    let n = prefix_len is_ascii_digit bs in
    joined form.Number b bs n (fraction_len (drop n bs)) (sym (length-prefix_len is_ascii_digit bs))
    (fraction (b ∷ take n bs) (drop n bs) (omega arith) (ap (λ t. t && list_all is_ascii_digit (take n bs)) e ∙ front_passes is_ascii_digit bs))

by_digit : (c : ℕ) (bs : List ℕ) (t : Bool) → is_ascii_digit c ≡ t → Sound 46 (c ∷ bs) (if t then Some (form.Number, suc (prefix_len is_ascii_digit (c ∷ bs))) else one_or_two form.Closing (c == 46))
by_digit c bs false e = by_second form.Closing 46 c 46 bs (c == 46) refl (closing 46 refl) points
by_digit c bs true e =
    let n = prefix_len is_ascii_digit (c ∷ bs) in
    let some : n ≡ 1 + prefix_len is_ascii_digit bs = ap (λ t. if t then 1 + prefix_len is_ascii_digit bs else 0) e in
    let len = length-prefix_len is_ascii_digit (c ∷ bs) in
    record {
      word = take n (c ∷ bs);
      rest = drop n (c ∷ bs);
      is = front_and_rest n (c ∷ bs);
      len = omega arith;
      spells = point_digits (take n (c ∷ bs)) (omega arith) (front_passes is_ascii_digit (c ∷ bs));
    }

sound_point : (bs : List ℕ) → Sound 46 bs (cut_point bs)
sound_point [] = alone form.Closing 46 [] (closing 46 refl)
sound_point (c ∷ bs) = by_digit c bs (is_ascii_digit c) refl

-- names
by_start : (front : List ℕ) (x c : ℕ) (cs : List ℕ) (t : Bool) → (x == 58) ≡ true → is_name_start c ≡ t → is_ncname front ≡ true
    → Tail (x ∷ c ∷ cs) (if t then suc (suc (prefix_len is_name_byte cs)) else 0) (λ tail. IsName (front ++ tail))
by_start front x c cs false e s is = nothing (x ∷ c ∷ cs) (λ tail. IsName (front ++ tail)) (subst IsName (sym (append-nil front)) (one_ncname front is))
by_start front x c cs true e s is =
    let n = prefix_len is_name_byte cs in record {
      word = 58 ∷ c ∷ take n cs;
      rest = drop n cs;
      is = ap (λ x. x ∷ c ∷ cs) (eqb-true x 58 e) ∙ ap (λ r. 58 ∷ c ∷ r) (front_and_rest n cs);
      len = omega (arith, length-prefix_len is_name_byte cs);
      holds = two_ncnames front (c ∷ take n cs) is (ap (λ t. t && list_all is_name_byte (take n cs)) s ∙ front_passes is_name_byte cs);
    }

by_colon : (front : List ℕ) (x : ℕ) (bs : List ℕ) (t : Bool) → (x == 58) ≡ t → is_ncname front ≡ true → Tail (x ∷ bs) (if t then ncname_behind_colon bs else 0) (λ tail. IsName (front ++ tail))
by_colon front x bs false e is = nothing (x ∷ bs) (λ tail. IsName (front ++ tail)) (subst IsName (sym (append-nil front)) (one_ncname front is))
by_colon front x [] true e is = nothing (x ∷ []) (λ tail. IsName (front ++ tail)) (subst IsName (sym (append-nil front)) (one_ncname front is))
by_colon front x (c ∷ cs) true e is = by_start front x c cs (is_name_start c) e refl is

local : (front rest : List ℕ) → is_ncname front ≡ true → Tail rest (local_len rest) (λ tail. IsName (front ++ tail))
local front [] is = nothing [] (λ tail. IsName (front ++ tail)) (subst IsName (sym (append-nil front)) (one_ncname front is))
local front (x ∷ bs) is = by_colon front x bs (x == 58) refl is

ncname_front : (b : ℕ) (bs : List ℕ) → is_name_start b ≡ true → is_ncname (b ∷ take (prefix_len is_name_byte bs) bs) ≡ true
ncname_front b bs e = ap (λ t. t && list_all is_name_byte (take (prefix_len is_name_byte bs) bs)) e ∙ front_passes is_name_byte bs

named : (f : Form) (bs : List ℕ) (l : ℕ) (make : List ℕ → List ℕ) → ((bytes : List ℕ) → IsName bytes → Spells f (make bytes)) → (front : List ℕ)
    → Tail bs l (λ tail. IsName (front ++ tail)) → Tail bs l (λ tail. Spells f (make (front ++ tail)))
named f bs l make spelled front T = record { word = T.word; rest = T.rest; is = T.is; len = T.len; holds = spelled (front ++ T.word) T.holds }

no_star : (a : Bool) → (a && false) ≡ true → ⊥
no_star true e = cc
no_star false e = cc

no_bytes : false ≡ true → ⊥
no_bytes e = cc

star_behind : (rest : List ℕ) → has_star rest ≡ true → (more : List ℕ) × (rest ≡ 58 ∷ 42 ∷ more)
star_behind [] e = absurd (no_bytes e)
star_behind (x ∷ []) e = absurd (no_star (x == 58) e)
star_behind (x ∷ c ∷ more) e =
    (more, ap (λ x. x ∷ c ∷ more) (eqb-true x 58 (and_first (x == 58) (c == 42) e)) ∙ ap (λ c. 58 ∷ c ∷ more) (eqb-true c 42 (and_second (x == 58) (c == 42) e)))

by_star : (b : ℕ) (bs : List ℕ) (t : Bool) → is_name_start b ≡ true → has_star (drop (prefix_len is_name_byte bs) bs) ≡ t
    → Sound b bs (if t then Some (form.InPrefix, prefix_len is_name_byte bs + 3) else Some (form.Name, suc (name_len bs)))
by_star b bs false e s =
    let n = prefix_len is_name_byte bs in let rest = drop n bs in let front = b ∷ take n bs in
    joined form.Name b bs n (local_len rest) (sym (length-prefix_len is_name_byte bs))
    (named form.Name rest (local_len rest) (λ bytes. bytes) name front (local front rest (ncname_front b bs e)))
by_star b bs true e s =
    let n = prefix_len is_name_byte bs in
    let behind = star_behind (drop n bs) s in record {
      word = take n bs ++ 58 ∷ 42 ∷ [];
      rest = behind.0;
      is = front_and_rest n bs ∙ (ap (λ r. take n bs ++ r) behind.1 ∙ sym (append_assoc (take n bs) (58 ∷ 42 ∷ []) behind.0));
      len = omega (arith, length-append (take n bs) (58 ∷ 42 ∷ []), length-prefix_len is_name_byte bs);
      spells = in_prefix (b ∷ take n bs) (ncname_front b bs e);
    }

by_name_start : (c : ℕ) (cs : List ℕ) (t : Bool) → is_name_start c ≡ t → Sound 36 (c ∷ cs) (if t then Some (form.Variable, suc (suc (name_len cs))) else None)
by_name_start c cs false e = tt
by_name_start c cs true e =
    let n = prefix_len is_name_byte cs in let rest = drop n cs in let front = c ∷ take n cs in
    let T = local front rest (ncname_front c cs e) in record {
      word = c ∷ (take n cs ++ T.word);
      rest = T.rest;
      is = ap (λ r. c ∷ r) (front_and_rest n cs ∙ (ap (λ r. take n cs ++ r) T.is ∙ sym (append_assoc (take n cs) T.word T.rest)));
      len = omega (arith, T.len, length-append (take n cs) T.word, length-prefix_len is_name_byte cs);
      spells = variable (front ++ T.word) T.holds;
    }

sound_variable : (bs : List ℕ) → Sound 36 bs (cut_variable bs)
sound_variable [] = tt
sound_variable (c ∷ cs) = by_name_start c cs (is_name_start c) refl

-- at the byte that a class stands for
at : (b c : ℕ) (P : ℕ → Type 0) → (b == c) ≡ true → P c → P b
at b c P e h = subst P (sym (eqb-true b c e)) h

sound_in : (c : Class) (b : ℕ) (bs : List ℕ) → Means c b → Sound b bs (cut_in c b bs)
sound_in class.Name b bs e = by_star b bs (has_star (drop (prefix_len is_name_byte bs) bs)) e refl
sound_in class.Digit b bs e = sound_number b bs e
sound_in class.Quote b bs e = sound_quoted b bs e
sound_in class.Point b bs e = at b 46 (λ b. Sound b bs (cut_point bs)) e (sound_point bs)
sound_in class.Star b bs e = at b 42 (λ b. Front b bs 1 form.Star) e (alone form.Star 42 bs star)
sound_in class.Dollar b bs e = at b 36 (λ b. Sound b bs (cut_variable bs)) e (sound_variable bs)
sound_in class.Slash b bs e = at b 47 (λ b. Sound b bs (one_or_two form.Operator (begins (λ c. c == 47) bs))) e (sound_one_or_two form.Operator 47 47 bs (sign 47 refl) slashes)
sound_in class.Angle b bs e = each (λ b. Sound b bs (one_or_two form.Operator (begins (λ c. c == 61) bs))) (codes "<>") b e
    (sound_one_or_two form.Operator 60 61 bs (sign 60 refl) (with_equal 60 refl), (sound_one_or_two form.Operator 62 61 bs (sign 62 refl) (with_equal 62 refl), tt))
sound_in class.Bang b bs e = at b 33 (λ b. Sound b bs (if begins (λ c. c == 61) bs then Some (form.Operator, 2) else None)) e (sound_two form.Operator 33 61 bs (with_equal 33 refl))
sound_in class.Colon b bs e = at b 58 (λ b. Sound b bs (if begins (λ c. c == 58) bs then Some (form.Opening, 2) else None)) e (sound_two form.Opening 58 58 bs colons)
sound_in class.Sign b bs e = each (λ b. Front b bs 1 form.Operator) (codes "|+-=") b e (
  alone form.Operator 124 bs (sign 124 refl),
  (alone form.Operator 43 bs (sign 43 refl), (alone form.Operator 45 bs (sign 45 refl), (alone form.Operator 61 bs (sign 61 refl), tt))),
)
sound_in class.Opening b bs e = alone form.Opening b bs (opening b e)
sound_in class.Closing b bs e = each (λ b. Front b bs 1 form.Closing) (codes ")]") b e (alone form.Closing 41 bs (closing 41 refl), (alone form.Closing 93 bs (closing 93 refl), tt))
sound_in class.Other b bs e = tt

pub sound : (b : ℕ) (bs : List ℕ) → Sound b bs (cut (b ∷ bs))
sound b bs = sound_in (class_of b) b bs (means b)
