-- The longest token at the front of a text, by calculation.
use Rattle.std.specs.Prelude.{ℕ, suc, ◌+◌, ◌==◌, ◌&&◌, if◌then◌else◌, not, nat_lt, Bool, false, List, [], ◌∷◌, length, drop, Option, Some, None, codes}
use Rattle.std.specs.Char.{is_ascii_digit}
use Rattle.std.specs.List.{prefix_len}
use Rattle.name_grammar.specs.Names.{is_name_start, is_name_byte}
use Rattle.xpath_syntax.specs.declared.form.Form.{Form}
use Rattle.xpath_syntax.specs.declared.form.Form.TheVariants as form
use Rattle.xpath_syntax.specs.declared.form.Class.{Class}
use Rattle.xpath_syntax.specs.declared.form.Class.TheVariants as class
use Rattle.xpath_syntax.specs.Forms.{is_one_of}

abbrev pub class_of_sign : ℕ → Class
class_of_sign b =
    if is_one_of (codes "'\"") b then class.Quote
    else if b == 46 then class.Point
    else if b == 42 then class.Star
    else if b == 36 then class.Dollar
    else if b == 47 then class.Slash
    else if is_one_of (codes "<>") b then class.Angle
    else if b == 33 then class.Bang
    else if b == 58 then class.Colon
    else if is_one_of (codes "|+-=") b then class.Sign
    else if is_one_of (codes "([@,") b then class.Opening
    else if is_one_of (codes ")]") b then class.Closing
    else class.Other

-- what a byte may begin
abbrev pub class_of : ℕ → Class
class_of b =
    if is_name_start b then class.Name
    else if is_ascii_digit b then class.Digit
    else class_of_sign b

-- whether the first byte passes
abbrev pub begins : (ℕ → Bool) → List ℕ → Bool
begins p [] = false
begins p (b ∷ bs) = p b

-- how many bytes a `.` and digits have here
abbrev pub fraction_len : List ℕ → ℕ
fraction_len [] = 0
fraction_len (b ∷ bs) = if b == 46 then suc (prefix_len is_ascii_digit bs) else 0

-- how many bytes a number has here, behind its first digit
abbrev pub number_len : List ℕ → ℕ
number_len bs = prefix_len is_ascii_digit bs + fraction_len (drop (prefix_len is_ascii_digit bs) bs)

abbrev pub ncname_behind_colon : List ℕ → ℕ
ncname_behind_colon [] = 0
ncname_behind_colon (b ∷ bs) = if is_name_start b then suc (suc (prefix_len is_name_byte bs)) else 0

-- how many bytes a colon and an NCName have here
abbrev pub local_len : List ℕ → ℕ
local_len [] = 0
local_len (b ∷ bs) = if b == 58 then ncname_behind_colon bs else 0

-- how many bytes a name has here, behind its first
abbrev pub name_len : List ℕ → ℕ
name_len bs = prefix_len is_name_byte bs + local_len (drop (prefix_len is_name_byte bs) bs)

-- a colon and `*` stand here
abbrev pub has_star : List ℕ → Bool
has_star [] = false
has_star (b ∷ bs) = b == 58 && begins (λ c. c == 42) bs

abbrev pub Cut : Type 0
Cut = Option (Form × ℕ)

-- two bytes where the second passes, else one
abbrev pub one_or_two : Form → Bool → Cut
one_or_two f second = Some (f, if second then 2 else 1)

abbrev pub cut_quoted : ℕ → List ℕ → Cut
cut_quoted quote bs =
    if nat_lt (prefix_len (λ b. not (b == quote)) bs) (length bs) then Some (form.Literal, prefix_len (λ b. not (b == quote)) bs + 2) else None

abbrev pub cut_point : List ℕ → Cut
cut_point bs = if begins is_ascii_digit bs then Some (form.Number, suc (prefix_len is_ascii_digit bs)) else one_or_two form.Closing (begins (λ c. c == 46) bs)

abbrev pub cut_name : List ℕ → Cut
cut_name bs =
    if has_star (drop (prefix_len is_name_byte bs) bs) then Some (form.InPrefix, prefix_len is_name_byte bs + 3) else Some (form.Name, suc (name_len bs))

abbrev pub cut_variable : List ℕ → Cut
cut_variable [] = None
cut_variable (b ∷ bs) = if is_name_start b then Some (form.Variable, suc (suc (name_len bs))) else None

-- the longest token that begins with a byte of this class
abbrev pub cut_in : Class → ℕ → List ℕ → Cut
cut_in class.Name b bs = cut_name bs
cut_in class.Digit b bs = Some (form.Number, suc (number_len bs))
cut_in class.Quote b bs = cut_quoted b bs
cut_in class.Point b bs = cut_point bs
cut_in class.Star b bs = Some (form.Star, 1)
cut_in class.Dollar b bs = cut_variable bs
cut_in class.Slash b bs = one_or_two form.Operator (begins (λ c. c == 47) bs)
cut_in class.Angle b bs = one_or_two form.Operator (begins (λ c. c == 61) bs)
cut_in class.Bang b bs = if begins (λ c. c == 61) bs then Some (form.Operator, 2) else None
cut_in class.Colon b bs = if begins (λ c. c == 58) bs then Some (form.Opening, 2) else None
cut_in class.Sign b bs = Some (form.Operator, 1)
cut_in class.Opening b bs = Some (form.Opening, 1)
cut_in class.Closing b bs = Some (form.Closing, 1)
cut_in class.Other b bs = None

abbrev pub cut : List ℕ → Cut
cut [] = None
cut (b ∷ bs) = cut_in (class_of b) b bs
