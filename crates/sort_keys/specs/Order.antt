-- The order of nodes by their sort keys (XSLT 1.0, section 10).
use Rattle.std.specs.Prelude.{ℕ, ◌+◌, List, [], ◌∷◌, Bool, if◌then◌else◌, Option, Some, None, slice_get, ℤ}
use Rattle.std.specs.Ordering.{int_cmp, nat_cmp, ordering_then}
use Rattle.std.specs.Cmp.Lexicographic.{slice_cmp}
use Rattle.std.specs.Option.{option_cmp, unwrap_or}
use Rattle.std.specs.declared.cmp.Ordering.{Ordering}
use Rattle.std.specs.declared.cmp.Ordering.TheVariants.{Equal}
use Rattle.whole_num.specs.declared.number.Num.TheVariants.{NaN, Whole}
use Rattle.sort_keys.specs.declared.key.How.{How}
use Rattle.sort_keys.specs.declared.key.KeyPart.{KeyPart}
use Rattle.sort_keys.specs.declared.key.KeyPart.TheVariants.{Text, Number}

-- a key as a number; None, which is less than every number, where it is none
abbrev pub number_of : Option KeyPart → Option ℤ
number_of None = None
number_of (Some (Text text)) = None
number_of (Some (Number NaN)) = None
number_of (Some (Number (Whole whole))) = Some whole

abbrev pub text_of : Option KeyPart → List ℕ
text_of None = []
text_of (Some (Text text)) = text
text_of (Some (Number number)) = []

-- numbers by their size, texts by their bytes
abbrev pub ascending : Bool → Option KeyPart → Option KeyPart → Ordering
ascending number key other = if number then option_cmp int_cmp (number_of key) (number_of other) else slice_cmp nat_cmp (text_of key) (text_of other)

abbrev pub key_cmp : How → Option KeyPart → Option KeyPart → Ordering
key_cmp how key other = if how.descending then ascending how.number other key else ascending how.number key other

-- of the keys from this one on the first that differs decides
abbrev pub row_cmp : List How → ℕ → List KeyPart → List KeyPart → Ordering
row_cmp [] k row other = Equal
row_cmp (how ∷ later) k row other = ordering_then (key_cmp how (slice_get row k) (slice_get other k)) (row_cmp later (k + 1) row other)

abbrev pub row_at : List (List KeyPart) → ℕ → List KeyPart
row_at rows place = unwrap_or (slice_get rows place) []

-- places stand by the keys of their rows, and where these are equal by themselves
abbrev pub place_cmp : List How → List (List KeyPart) → ℕ → ℕ → Ordering
place_cmp hows rows a b = ordering_then (row_cmp hows 0 (row_at rows a) (row_at rows b)) (nat_cmp a b)
