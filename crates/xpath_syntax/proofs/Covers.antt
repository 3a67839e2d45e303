-- What is spelled at the front of a text is within the scanner's token.
use Rattle.std.proofs.Common.{◌≡◌, refl, sym, ap, ◌∙◌, subst, ℕ, suc, ◌+◌, ◌<◌, ◌≤◌, List, [], ◌∷◌, ◌++◌, append_assoc, Bool, true, false, Some, None, drop, length, length-append, arith}
use Rattle.std.specs.Prelude.{◌==◌, if◌then◌else◌, not, nat_lt, codes}
use Rattle.std.specs.Char.{is_ascii_digit}
use Rattle.std.specs.List.{prefix_len, list_all}
use Rattle.std.proofs.Math.Seq.{drop-append_seam}
use Rattle.std.proofs.lemmas.Bool.Decides.{nat_tests}
use Rattle.name_grammar.specs.Names.{is_name_start, is_name_byte, is_ncname, IsName, one_ncname, two_ncnames}
use Rattle.xpath_syntax.specs.declared.form.Form.{Form}
use Rattle.xpath_syntax.specs.declared.form.Form.TheVariants as form
use Rattle.xpath_syntax.specs.declared.form.Class.TheVariants as class
use Rattle.xpath_syntax.specs.Forms.{Spells, double_quoted, single_quoted, digits, digits_point, point_digits, name, in_prefix, star, variable, sign}
use Rattle.xpath_syntax.specs.Forms.{slashes, with_equal, opening, colons, closing, points}
use Rattle.xpath_syntax.specs.Scan.{class_of_sign, class_of, begins, fraction_len, number_len, local_len, name_len, has_star, Cut, one_or_two}
use Rattle.xpath_syntax.specs.Scan.{cut_quoted, cut_point, cut_name, cut_variable, cut_in, cut}
use Rattle.xpath_syntax.proofs.Front.{Stops, fails, and_first, and_second, front_len, front_least, front_drop, Each, each}

-- a front of m bytes is no longer than the token, and is it where they are equally long
abbrev pub Covers : Form → ℕ → Cut → Type 0
Covers g m None = ⊥
Covers g m (Some x) = (m ≤ x.1) × (m ≡ x.1 → g ≡ x.0)

-- a digit begins no name, and so on
digit_no_name : (b : ℕ) → is_ascii_digit b ≡ true → is_name_start b ≡ false
digit_no_name b e = grind (arith, nat_tests)

name_no_star : (b : ℕ) → is_name_start b ≡ true → (b == 42) ≡ false
name_no_star b e = grind (arith, nat_tests)

name_class : (b : ℕ) → is_name_start b ≡ true → class_of b ≡ class.Name
name_class b e = ap (λ t. if t then class.Name else if is_ascii_digit b then class.Digit else class_of_sign b) e

digit_class : (b : ℕ) → is_ascii_digit b ≡ true → class_of b ≡ class.Digit
digit_class b e =
    ap (λ t. if t then class.Name else if is_ascii_digit b then class.Digit else class_of_sign b) (digit_no_name b e)
    ∙ ap (λ t. if t then class.Digit else class_of_sign b) e

covers_then : (g : Form) (m : ℕ) (x : Form × ℕ) (other : Cut) (t : Bool) → t ≡ true → Covers g m (Some x) → Covers g m (if t then Some x else other)
covers_then g m x other t e c = subst (λ t. Covers g m (if t then Some x else other)) (sym e) c

-- literals
cover_quoted : (quote : ℕ) (text rest : List ℕ) → list_all (λ b. not (b == quote)) text ≡ true → not (quote == quote) ≡ false
    → Covers form.Literal (suc (length (text ++ quote ∷ []))) (cut_quoted quote ((text ++ quote ∷ []) ++ rest))
cover_quoted quote text rest all stop =
    let bs = (text ++ quote ∷ []) ++ rest in
    let len : prefix_len (λ b. not (b == quote)) bs ≡ length text =
    ap (prefix_len (λ b. not (b == quote))) (append_assoc text (quote ∷ []) rest)
    ∙ front_len (λ b. not (b == quote)) text (quote ∷ rest) all (fails quote rest stop) in
    let size : length bs ≡ length text + 1 + length rest = omega (arith, length-append (text ++ quote ∷ []) rest, length-append text (quote ∷ [])) in
    let less : prefix_len (λ b. not (b == quote)) bs < length bs = omega arith in
    let test : nat_lt (prefix_len (λ b. not (b == quote)) bs) (length bs) ≡ true = grind (arith, nat_tests, less) in
    covers_then form.Literal (suc (length (text ++ quote ∷ []))) (form.Literal, prefix_len (λ b. not (b == quote)) bs + 2) None (nat_lt (prefix_len (λ b. not (b == quote)) bs) (length bs)) test
    (omega (arith, length-append text (quote ∷ [])), λ e. refl)

-- numbers
cover_digit : (b : ℕ) (bs rest : List ℕ) → is_ascii_digit b ≡ true → length bs ≤ number_len rest → Covers form.Number (suc (length bs)) (cut (b ∷ rest))
cover_digit b bs rest e h = subst (λ c. Covers form.Number (suc (length bs)) (cut_in c b rest)) (sym (digit_class b e)) (omega arith, λ same. refl)

digits_least : (bs rest : List ℕ) → list_all is_ascii_digit bs ≡ true → length bs ≤ number_len (bs ++ rest)
digits_least bs rest all = let h = front_least is_ascii_digit bs rest all in omega arith

point_least : (bs fraction rest : List ℕ) → list_all is_ascii_digit bs ≡ true → list_all is_ascii_digit fraction ≡ true → length bs + 1 + length fraction ≤ number_len (bs ++ 46 ∷ (fraction ++ rest))
point_least bs fraction rest all all' =
    let stops : Stops is_ascii_digit (46 ∷ (fraction ++ rest)) = fails 46 (fraction ++ rest) refl in
    let len = front_len is_ascii_digit bs (46 ∷ (fraction ++ rest)) all stops in
    let behind : fraction_len (drop (prefix_len is_ascii_digit (bs ++ 46 ∷ (fraction ++ rest))) (bs ++ 46 ∷ (fraction ++ rest))) ≡ suc
    (prefix_len is_ascii_digit (fraction ++ rest)) = ap fraction_len (front_drop is_ascii_digit bs (46 ∷ (fraction ++ rest)) all stops) in
    let h = front_least is_ascii_digit fraction rest all' in
    omega arith

cover_digits : (whole rest : List ℕ) → 0 < length whole → list_all is_ascii_digit whole ≡ true → Covers form.Number (length whole) (cut (whole ++ rest))
cover_digits [] rest some all = absurd (omega arith)
cover_digits (b ∷ bs) rest some all =
    cover_digit b bs (bs ++ rest) (and_first (is_ascii_digit b) (list_all is_ascii_digit bs) all) (digits_least bs rest (and_second (is_ascii_digit b) (list_all is_ascii_digit bs) all))

cover_digits_point : (whole fraction rest : List ℕ) → 0 < length whole → list_all is_ascii_digit whole ≡ true → list_all is_ascii_digit fraction ≡ true
    → Covers form.Number (length (whole ++ 46 ∷ fraction)) (cut ((whole ++ 46 ∷ fraction) ++ rest))
cover_digits_point [] fraction rest some all all' = absurd (omega arith)
cover_digits_point (b ∷ bs) fraction rest some all all' =
    let h : length (bs ++ 46 ∷ fraction) ≤ number_len ((bs ++ 46 ∷ fraction) ++ rest) =
    subst (λ t. length (bs ++ 46 ∷ fraction) ≤ number_len t) (sym (append_assoc bs (46 ∷ fraction) rest))
    (omega (arith, length-append bs (46 ∷ fraction), point_least bs fraction rest (and_second (is_ascii_digit b) (list_all is_ascii_digit bs) all) all')) in
    cover_digit b (bs ++ 46 ∷ fraction) ((bs ++ 46 ∷ fraction) ++ rest) (and_first (is_ascii_digit b) (list_all is_ascii_digit bs) all) h

cover_point_digits : (fraction rest : List ℕ) → 0 < length fraction → list_all is_ascii_digit fraction ≡ true → Covers form.Number (suc (length fraction)) (cut_point (fraction ++ rest))
cover_point_digits [] rest some all = absurd (omega arith)
cover_point_digits (b ∷ bs) rest some all =
    covers_then form.Number (suc (suc (length bs))) (form.Number, suc (prefix_len is_ascii_digit ((b ∷ bs) ++ rest)))
    (one_or_two form.Closing (begins (λ c. c == 46) ((b ∷ bs) ++ rest))) (is_ascii_digit b) (and_first (is_ascii_digit b) (list_all is_ascii_digit bs) all)
    (let h = front_least is_ascii_digit (b ∷ bs) rest all in (omega arith, λ same. refl))

-- names
cover_name : (g : Form) (m b : ℕ) (rest : List ℕ) → is_name_start b ≡ true → Covers g m (cut_name rest) → Covers g m (cut (b ∷ rest))
cover_name g m b rest e c = subst (λ k. Covers g m (cut_in k b rest)) (sym (name_class b e)) c

by_star : (m n l : ℕ) (t : Bool) → m ≤ n → Covers form.Name (suc m) (if t then Some (form.InPrefix, n + 3) else Some (form.Name, suc (n + l)))
by_star m n l true h = (omega arith, λ same. absurd (omega arith))
by_star m n l false h = (omega arith, λ same. refl)

cover_one : (bs rest : List ℕ) → list_all is_name_byte bs ≡ true → Covers form.Name (suc (length bs)) (cut_name (bs ++ rest))
cover_one bs rest all =
    let n = prefix_len is_name_byte (bs ++ rest) in
    by_star (length bs) n (local_len (drop n (bs ++ rest))) (has_star (drop n (bs ++ rest))) (front_least is_name_byte bs rest all)

cut_name_is : (bs rest : List ℕ) → list_all is_name_byte bs ≡ true → Stops is_name_byte rest
    → cut_name (bs ++ rest) ≡ (if has_star rest then Some (form.InPrefix, length bs + 3) else Some (form.Name, suc (length bs + local_len rest)))
cut_name_is bs rest all stops =
    ap (λ n. if has_star (drop n (bs ++ rest)) then Some (form.InPrefix, n + 3) else Some (form.Name, suc (n + local_len (drop n (bs ++ rest))))) (front_len is_name_byte bs rest all stops)
    ∙ ap (λ r. if has_star r then Some (form.InPrefix, length bs + 3) else Some (form.Name, suc (length bs + local_len r))) (drop-append_seam bs rest)

local_is : (b : ℕ) (bs : List ℕ) → is_name_start b ≡ true → local_len (58 ∷ b ∷ bs) ≡ suc (suc (prefix_len is_name_byte bs))
local_is b bs e = ap (λ t. if t then suc (suc (prefix_len is_name_byte bs)) else 0) e

cover_two : (bs : List ℕ) (c : ℕ) (cs rest : List ℕ) → list_all is_name_byte bs ≡ true → is_name_start c ≡ true → list_all is_name_byte cs ≡ true
    → Covers form.Name (suc (length (bs ++ 58 ∷ c ∷ cs))) (cut_name ((bs ++ 58 ∷ c ∷ cs) ++ rest))
cover_two bs c cs rest all start all' =
    let is : cut_name ((bs ++ 58 ∷ c ∷ cs) ++ rest) ≡ Some (form.Name, suc (length bs + local_len (58 ∷ c ∷ (cs ++ rest)))) =
    ap cut_name (append_assoc bs (58 ∷ c ∷ cs) rest)
    ∙ (cut_name_is bs (58 ∷ c ∷ (cs ++ rest)) all (fails 58 (c ∷ (cs ++ rest)) refl)
    ∙ ap (λ t. if t then Some (form.InPrefix, length bs + 3) else Some (form.Name, suc (length bs + local_len (58 ∷ c ∷ (cs ++ rest))))) (name_no_star c start)) in
    let len = local_is c (cs ++ rest) start in
    let h = front_least is_name_byte cs rest all' in
    subst (Covers form.Name (suc (length (bs ++ 58 ∷ c ∷ cs)))) (sym is) (omega (arith, length-append bs (58 ∷ c ∷ cs)), λ same. refl)

cover_prefix : (bs rest : List ℕ) → list_all is_name_byte bs ≡ true → Covers form.InPrefix (suc (length (bs ++ 58 ∷ 42 ∷ []))) (cut_name ((bs ++ 58 ∷ 42 ∷ []) ++ rest))
cover_prefix bs rest all =
    let is : cut_name ((bs ++ 58 ∷ 42 ∷ []) ++ rest) ≡ Some (form.InPrefix, length bs + 3) =
    ap cut_name (append_assoc bs (58 ∷ 42 ∷ []) rest) ∙ cut_name_is bs (58 ∷ 42 ∷ rest) all (fails 58 (42 ∷ rest) refl) in
    subst (Covers form.InPrefix (suc (length (bs ++ 58 ∷ 42 ∷ [])))) (sym is) (omega (arith, length-append bs (58 ∷ 42 ∷ [])), λ same. refl)

-- the parts of an NCName
start_of : (b : ℕ) (bs : List ℕ) → is_ncname (b ∷ bs) ≡ true → is_name_start b ≡ true
start_of b bs e = and_first (is_name_start b) (list_all is_name_byte bs) e

bytes_of : (b : ℕ) (bs : List ℕ) → is_ncname (b ∷ bs) ≡ true → list_all is_name_byte bs ≡ true
bytes_of b bs e = and_second (is_name_start b) (list_all is_name_byte bs) e

cover_joined : (prefix local rest : List ℕ) → is_ncname prefix ≡ true → is_ncname local ≡ true → Covers form.Name (length (prefix ++ 58 ∷ local)) (cut ((prefix ++ 58 ∷ local) ++ rest))
cover_joined [] local rest p l = cc
cover_joined (b ∷ bs) [] rest p l = cc
cover_joined (b ∷ bs) (c ∷ cs) rest p l =
    cover_name form.Name (suc (length (bs ++ 58 ∷ c ∷ cs))) b ((bs ++ 58 ∷ c ∷ cs) ++ rest) (start_of b bs p) (cover_two bs c cs rest (bytes_of b bs p) (start_of c cs l) (bytes_of c cs l))

cover_ncname : (bytes rest : List ℕ) → is_ncname bytes ≡ true → Covers form.Name (length bytes) (cut (bytes ++ rest))
cover_ncname [] rest e = cc
cover_ncname (b ∷ bs) rest e = cover_name form.Name (suc (length bs)) b (bs ++ rest) (start_of b bs e) (cover_one bs rest (bytes_of b bs e))

cover_names : (bytes rest : List ℕ) → IsName bytes → Covers form.Name (length bytes) (cut (bytes ++ rest))
cover_names bytes rest (one_ncname _ e) = cover_ncname bytes rest e
cover_names _ rest (two_ncnames prefix local p l) = cover_joined prefix local rest p l

cover_in_prefix : (prefix rest : List ℕ) → is_ncname prefix ≡ true → Covers form.InPrefix (length (prefix ++ 58 ∷ 42 ∷ [])) (cut ((prefix ++ 58 ∷ 42 ∷ []) ++ rest))
cover_in_prefix [] rest e = cc
cover_in_prefix (b ∷ bs) rest e = cover_name form.InPrefix (suc (length (bs ++ 58 ∷ 42 ∷ []))) b ((bs ++ 58 ∷ 42 ∷ []) ++ rest) (start_of b bs e) (cover_prefix bs rest (bytes_of b bs e))

-- variables
cover_variable : (b : ℕ) (bs rest : List ℕ) → is_name_start b ≡ true → length bs ≤ name_len rest → Covers form.Variable (suc (suc (length bs))) (cut_variable (b ∷ rest))
cover_variable b bs rest e h = covers_then form.Variable (suc (suc (length bs))) (form.Variable, suc (suc (name_len rest))) None (is_name_start b) e (omega arith, λ same. refl)

one_least : (bs rest : List ℕ) → list_all is_name_byte bs ≡ true → length bs ≤ name_len (bs ++ rest)
one_least bs rest all = let h = front_least is_name_byte bs rest all in omega arith

two_least : (bs : List ℕ) (c : ℕ) (cs rest : List ℕ) → list_all is_name_byte bs ≡ true → is_name_start c ≡ true → list_all is_name_byte cs ≡ true
    → length (bs ++ 58 ∷ c ∷ cs) ≤ name_len ((bs ++ 58 ∷ c ∷ cs) ++ rest)
two_least bs c cs rest all start all' =
    let stops : Stops is_name_byte (58 ∷ c ∷ (cs ++ rest)) = fails 58 (c ∷ (cs ++ rest)) refl in
    let len = front_len is_name_byte bs (58 ∷ c ∷ (cs ++ rest)) all stops in
    let behind : local_len (drop (prefix_len is_name_byte (bs ++ 58 ∷ c ∷ (cs ++ rest))) (bs ++ 58 ∷ c ∷ (cs ++ rest))) ≡ suc
    (suc (prefix_len is_name_byte (cs ++ rest))) = ap local_len (front_drop is_name_byte bs (58 ∷ c ∷ (cs ++ rest)) all stops) ∙ local_is c (cs ++ rest) start in
    let h = front_least is_name_byte cs rest all' in
    subst (λ t. length (bs ++ 58 ∷ c ∷ cs) ≤ name_len t) (sym (append_assoc bs (58 ∷ c ∷ cs) rest)) (omega (arith, length-append bs (58 ∷ c ∷ cs)))

cover_variable_joined : (prefix local rest : List ℕ) → is_ncname prefix ≡ true → is_ncname local ≡ true
    → Covers form.Variable (suc (length (prefix ++ 58 ∷ local))) (cut_variable ((prefix ++ 58 ∷ local) ++ rest))
cover_variable_joined [] local rest p l = cc
cover_variable_joined (b ∷ bs) [] rest p l = cc
cover_variable_joined (b ∷ bs) (c ∷ cs) rest p l =
    cover_variable b (bs ++ 58 ∷ c ∷ cs) ((bs ++ 58 ∷ c ∷ cs) ++ rest) (start_of b bs p) (two_least bs c cs rest (bytes_of b bs p) (start_of c cs l) (bytes_of c cs l))

cover_variable_ncname : (bytes rest : List ℕ) → is_ncname bytes ≡ true → Covers form.Variable (suc (length bytes)) (cut_variable (bytes ++ rest))
cover_variable_ncname [] rest e = cc
cover_variable_ncname (b ∷ bs) rest e = cover_variable b bs (bs ++ rest) (start_of b bs e) (one_least bs rest (bytes_of b bs e))

cover_variables : (bytes rest : List ℕ) → IsName bytes → Covers form.Variable (suc (length bytes)) (cut_variable (bytes ++ rest))
cover_variables bytes rest (one_ncname _ e) = cover_variable_ncname bytes rest e
cover_variables _ rest (two_ncnames prefix local p l) = cover_variable_joined prefix local rest p l

-- operators and marks
by_second : (f : Form) (t : Bool) → Covers f 1 (one_or_two f t)
by_second f true = (omega arith, λ same. refl)
by_second f false = (omega arith, λ same. refl)

by_digit : (b : ℕ) (bs : List ℕ) (t : Bool) → is_ascii_digit b ≡ t
    → Covers form.Closing 1 (if t then Some (form.Number, suc (if t then 1 + prefix_len is_ascii_digit bs else 0)) else one_or_two form.Closing (b == 46))
by_digit b bs true e = (omega arith, λ same. absurd (omega arith))
by_digit b bs false e = by_second form.Closing (b == 46)

cover_point : (rest : List ℕ) → Covers form.Closing 1 (cut_point rest)
cover_point [] = (omega arith, λ same. refl)
cover_point (b ∷ bs) = by_digit b bs (is_ascii_digit b) refl

abbrev Alone : Form → ℕ → Type 0
Alone f b = (rest : List ℕ) → Covers f 1 (cut (b ∷ rest))

abbrev WithEqual : ℕ → Type 0
WithEqual b = (rest : List ℕ) → Covers form.Operator 2 (cut (b ∷ 61 ∷ rest))

whole_1 : (f : Form) → Covers f 1 (Some (f, 1))
whole_1 f = (omega arith, λ same. refl)

whole_2 : (f : Form) → Covers f 2 (Some (f, 2))
whole_2 f = (omega arith, λ same. refl)

alone_signs : Each (Alone form.Operator) (codes "/|+-=<>")
alone_signs = (
  λ rest. by_second form.Operator (begins (λ c. c == 47) rest),
  (
    λ rest. whole_1 form.Operator,
    (
      λ rest. whole_1 form.Operator,
      (
        λ rest. whole_1 form.Operator,
        (
          λ rest. whole_1 form.Operator,
          (λ rest. by_second form.Operator (begins (λ c. c == 61) rest), (λ rest. by_second form.Operator (begins (λ c. c == 61) rest), tt)),
        ),
      ),
    ),
  ),
)

with_equals : Each WithEqual (codes "!<>")
with_equals = (λ rest. whole_2 form.Operator, (λ rest. whole_2 form.Operator, (λ rest. whole_2 form.Operator, tt)))

alone_openings : Each (Alone form.Opening) (codes "([@,")
alone_openings = (λ rest. whole_1 form.Opening, (λ rest. whole_1 form.Opening, (λ rest. whole_1 form.Opening, (λ rest. whole_1 form.Opening, tt))))

alone_closings : Each (Alone form.Closing) (codes ")].")
alone_closings = (λ rest. whole_1 form.Closing, (λ rest. whole_1 form.Closing, (λ rest. cover_point rest, tt)))

pub covers : (f : Form) (word rest : List ℕ) → Spells f word → Covers f (length word) (cut (word ++ rest))
covers _ _ rest (double_quoted text all) = cover_quoted 34 text rest all refl
covers _ _ rest (single_quoted text all) = cover_quoted 39 text rest all refl
covers _ _ rest (digits whole some all) = cover_digits whole rest some all
covers _ _ rest (digits_point whole fraction some all all') = cover_digits_point whole fraction rest some all all'
covers _ _ rest (point_digits fraction some all) = cover_point_digits fraction rest some all
covers _ _ rest (name bytes is) = cover_names bytes rest is
covers _ _ rest (in_prefix prefix is) = cover_in_prefix prefix rest is
covers _ _ rest star = whole_1 form.Star
covers _ _ rest (variable bytes is) = cover_variables bytes rest is
covers _ _ rest (sign b is) = each (Alone form.Operator) (codes "/|+-=<>") b is alone_signs rest
covers _ _ rest slashes = whole_2 form.Operator
covers _ _ rest (with_equal b is) = each WithEqual (codes "!<>") b is with_equals rest
covers _ _ rest (opening b is) = each (Alone form.Opening) (codes "([@,") b is alone_openings rest
covers _ _ rest colons = whole_2 form.Opening
covers _ _ rest (closing b is) = each (Alone form.Closing) (codes ")].") b is alone_closings rest
covers _ _ rest points = whole_2 form.Closing
