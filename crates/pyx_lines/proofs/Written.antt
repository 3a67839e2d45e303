-- What is written reads back, and what is read can be written.
use Rattle.std.proofs.Common.{◌≡◌, ◌≢◌, ℕ, ◌<◌, ◌==◌, List, [], ◌∷◌, ◌++◌, Bool, true, false, IsTrue, IsUtf8, length, if◌then◌else◌, Ok, refl, subst, arith, append_assoc}
use Rattle.std.specs.List.{list_all, slice_split, onto_first}
use Rattle.std.specs.Str.{is_utf8}
use Rattle.std.specs.Str.Lines.{strip_carriage_return}
use Rattle.std.proofs.lemmas.Grind.{common_steps}
use Rattle.std.proofs.lemmas.Bool.Decides.{nat_tests}
use Rattle.std.proofs.lemmas.List.Folds.{list_all-append}
use Rattle.std.proofs.lemmas.Str.{IsUtf8-append, IsUtf8-nil, IsUtf8-from_is_utf8, is_utf8-from_IsUtf8}
use Rattle.pyx_lines.specs.Escapes.{escape, escape_byte, unescape}
use Rattle.pyx_lines.specs.Lines.{without_empty_end, cut_lines, lines_of}
use Rattle.pyx_lines.specs.Spelling.{Spells, spells_start, spells_end, spells_attribute, spells_text, spells_target, spells_instruction, spells_comment, passes_over, passes_empty, line_of}
use Rattle.pyx_lines.specs.Writing.{CanBeWritten, body_of, ends_in_return, guarded, written}
use Rattle.pyx_lines.specs.declared.line.Line.{Line}
use Rattle.pyx_lines.specs.declared.line.Line.TheVariants.{Start, End, Attr, Text, Instruction, Comment, Passed}
use Rattle.pyx_lines.proofs.Bytes.{not_feed, name_high, ncname_high, high_not_feed, escaped_not_feed}
use Rattle.pyx_lines.proofs.Escaping.{unescape-other}
use Rattle.pyx_lines.proofs.Spelled.{taken, takes}
use Rattle.pyx_lines.proofs.Utf8.{ascii_then, cut_at_ascii, IsUtf8-escape, IsUtf8-unescape}

byte_back : (b : ℕ) (bytes : List ℕ) → unescape (escape_byte b ++ bytes) ≡ b ∷ unescape bytes
byte_back b bytes = grind (arith, common_steps, nat_tests, unescape-other b bytes)

-- what is escaped reads back
pub unescape-escape : (value : List ℕ) → unescape (escape value) ≡ value
unescape-escape [] = refl
unescape-escape (b ∷ value) = rw (byte_back b (escape value), unescape-escape value) refl

text_of : (bytes : List ℕ) → IsTrue (is_utf8 bytes) → IsUtf8 bytes
text_of bytes is = IsUtf8-from_is_utf8 bytes is

-- what is written is UTF-8
body_utf8 : (line : Line) → CanBeWritten line → IsUtf8 (body_of line)
body_utf8 (Start name) can = ascii_then 40 name (omega arith) (text_of name can.1)
body_utf8 (End name) can = ascii_then 41 name (omega arith) (text_of name can.1)
body_utf8 (Attr name value) can =
    ascii_then 65 (name ++ 32 ∷ escape value) (omega arith)
    (IsUtf8-append name (32 ∷ escape value) (text_of name can.1) (ascii_then 32 (escape value) (omega arith) (IsUtf8-escape value (text_of value can.2))))
body_utf8 (Text value) can = ascii_then 45 (escape value) (omega arith) (IsUtf8-escape value (text_of value can))
body_utf8 (Instruction target value) can =
    ascii_then 63 (target ++ 32 ∷ escape value) (omega arith)
    (IsUtf8-append target (32 ∷ escape value) (text_of target can.1) (ascii_then 32 (escape value) (omega arith) (IsUtf8-escape value (text_of value can.2))))
body_utf8 (Comment value) can = ascii_then 67 (escape value) (omega arith) (IsUtf8-escape value (text_of value can))
body_utf8 Passed can = absurd can

-- what is written spells the line
body_spells : (line : Line) → CanBeWritten line → Spells (body_of line) line
body_spells (Start name) can = spells_start name can.0
body_spells (End name) can = spells_end name can.0
body_spells (Attr name value) can =
    subst (λ (back : List ℕ). Spells (65 ∷ name ++ 32 ∷ escape value) (Attr name back)) (unescape-escape value) (spells_attribute name (escape value) can.0)
body_spells (Text value) can = subst (λ (back : List ℕ). Spells (45 ∷ escape value) (Text back)) (unescape-escape value) (spells_text (escape value))
body_spells (Instruction target value) can =
    subst (λ (back : List ℕ). Spells (63 ∷ target ++ 32 ∷ escape value) (Instruction target back)) (unescape-escape value) (spells_instruction target (escape value) can.0)
body_spells (Comment value) can = subst (λ (back : List ℕ). Spells (67 ∷ escape value) (Comment back)) (unescape-escape value) (spells_comment (escape value))
body_spells Passed can = absurd can

pub line_back : (line : Line) → CanBeWritten line → line_of (body_of line) ≡ Ok line
line_back line can = takes (body_of line) line (is_utf8-from_IsUtf8 (body_of line) (body_utf8 line can)) (body_spells line can)

pair_not_feed : (b : ℕ) (name value : List ℕ) → not_feed b ≡ true → list_all not_feed name ≡ true → list_all not_feed (b ∷ name ++ 32 ∷ escape value) ≡ true
pair_not_feed b name value first is = rw (first, list_all-append not_feed name (32 ∷ escape value), is, escaped_not_feed value) refl

body_not_feed : (line : Line) → CanBeWritten line → list_all not_feed (body_of line) ≡ true
body_not_feed (Start name) can = high_not_feed name (name_high name can.0)
body_not_feed (End name) can = high_not_feed name (name_high name can.0)
body_not_feed (Attr name value) can = pair_not_feed 65 name value refl (high_not_feed name (name_high name can.0))
body_not_feed (Text value) can = escaped_not_feed value
body_not_feed (Instruction target value) can = pair_not_feed 63 target value refl (high_not_feed target (ncname_high target can.0))
body_not_feed (Comment value) can = escaped_not_feed value
body_not_feed Passed can = absurd can

guarded_by : (bytes : List ℕ) (is : Bool) → list_all not_feed bytes ≡ true → list_all not_feed (if is then bytes ++ 13 ∷ [] else bytes) ≡ true
guarded_by bytes true plain = rw (list_all-append not_feed bytes (13 ∷ []), plain) refl
guarded_by bytes false plain = plain

strip_by : (bytes : List ℕ) (is : Bool) → ends_in_return bytes ≡ is → strip_carriage_return (if is then bytes ++ 13 ∷ [] else bytes) ≡ bytes
strip_by bytes true is = grind (arith, common_steps)
strip_by bytes false is = rw is refl

split_at_feed : (bytes more : List ℕ) → list_all not_feed bytes ≡ true → slice_split (λ b. b == 10) (bytes ++ 10 ∷ more) ≡ bytes ∷ slice_split (λ b. b == 10) more
split_at_feed [] more plain = refl
split_at_feed (b ∷ bytes) more plain =
    let other : (b == 10) ≡ false = grind (arith, nat_tests, plain) in
    let rest = split_at_feed bytes more (grind (arith, nat_tests, plain)) in
    rw (other, rest) refl

-- a split list has a first part
onto_some : (b : ℕ) (parts : List (List ℕ)) → 0 < length (onto_first b parts)
onto_some b [] = omega arith
onto_some b (part ∷ parts) = omega arith

split_by : (b : ℕ) (bytes : List ℕ) (is : Bool) → (b == 10) ≡ is → 0 < length (slice_split (λ b. b == 10) (b ∷ bytes))
split_by b bytes true is = rw is (omega arith)
split_by b bytes false is = rw is (onto_some b (slice_split (λ b. b == 10) bytes))

pub split_some : (bytes : List ℕ) → 0 < length (slice_split (λ b. b == 10) bytes)
split_some [] = omega arith
split_some (b ∷ bytes) = split_by b bytes (b == 10) refl

more_parts : (part : List ℕ) (parts : List (List ℕ)) → 0 < length parts → without_empty_end (part ∷ parts) ≡ part ∷ without_empty_end parts
more_parts part [] some = absurd (omega arith)
more_parts part (next ∷ parts) some = refl

-- bytes without a line feed, up to one
pub cut_lines-feed : (bytes more : List ℕ) → list_all not_feed bytes ≡ true → cut_lines (bytes ++ 10 ∷ more) ≡ bytes ∷ cut_lines more
cut_lines-feed bytes more plain = rw (split_at_feed bytes more plain) (more_parts bytes (slice_split (λ b. b == 10) more) (split_some more))

-- the first line is what was written for it
pub cut_written : (line : Line) (more : List ℕ) → CanBeWritten line → cut_lines (written line ++ more) ≡ guarded (body_of line) ∷ cut_lines more
cut_written line more can =
    let body = body_of line in
    let plain : list_all not_feed (guarded body) ≡ true = guarded_by body (ends_in_return body) (body_not_feed line can) in
    rw (append_assoc (guarded body) (10 ∷ []) more) (cut_lines-feed (guarded body) more plain)

-- a reader drops what guards a line
pub unguarded : (line : Line) → strip_carriage_return (guarded (body_of line)) ≡ body_of line
unguarded line = strip_by (body_of line) (ends_in_return (body_of line)) refl

-- whatever stands after a written line, its first line is what was written for it
pub lines_of-written : (line : Line) (more : List ℕ) → CanBeWritten line → lines_of (written line ++ more) ≡ body_of line ∷ lines_of more
lines_of-written line more can = rw (cut_written line more can, unguarded line) refl

pair_parts : (b : ℕ) (name value : List ℕ) → b < 128 → IsTrue (is_utf8 (b ∷ name ++ 32 ∷ value)) → IsTrue (is_utf8 name) × IsTrue (is_utf8 (unescape value))
pair_parts b name value small is =
    let rest = cut_at_ascii [] b (name ++ 32 ∷ value) small (text_of (b ∷ name ++ 32 ∷ value) is) in
    let parts = cut_at_ascii name 32 value (omega arith) rest.1 in
    (is_utf8-from_IsUtf8 name parts.0, is_utf8-from_IsUtf8 (unescape value) (IsUtf8-unescape value parts.1))

tail_utf8 : (b : ℕ) (bytes : List ℕ) → b < 128 → IsTrue (is_utf8 (b ∷ bytes)) → IsUtf8 bytes
tail_utf8 b bytes small is = (cut_at_ascii [] b bytes small (text_of (b ∷ bytes) is)).1

spelled_can : (bytes : List ℕ) (line : Line) → IsTrue (is_utf8 bytes) → Spells bytes line → line ≢ Passed → CanBeWritten line
spelled_can _ _ text (spells_start name is) some = (is, is_utf8-from_IsUtf8 name (tail_utf8 40 name (omega arith) text))
spelled_can _ _ text (spells_end name is) some = (is, is_utf8-from_IsUtf8 name (tail_utf8 41 name (omega arith) text))
spelled_can _ _ text (spells_attribute name value is) some = let parts = pair_parts 65 name value (omega arith) text in (is, parts.0, parts.1)
spelled_can _ _ text (spells_text value) some = is_utf8-from_IsUtf8 (unescape value) (IsUtf8-unescape value (tail_utf8 45 value (omega arith) text))
spelled_can _ _ text (spells_target target is) some = (is, is_utf8-from_IsUtf8 target (tail_utf8 63 target (omega arith) text), is_utf8-from_IsUtf8 [] IsUtf8-nil)
spelled_can _ _ text (spells_instruction target value is) some = let parts = pair_parts 63 target value (omega arith) text in (is, parts.0, parts.1)
spelled_can _ _ text (spells_comment value) some = is_utf8-from_IsUtf8 (unescape value) (IsUtf8-unescape value (tail_utf8 67 value (omega arith) text))
spelled_can _ _ text (passes_over b rest is) some = absurd (some refl)
spelled_can _ _ text passes_empty some = absurd (some refl)

-- what is read, unless it is passed over, can be written
pub read_can : (bytes : List ℕ) (line : Line) → line_of bytes ≡ Ok line → line ≢ Passed → CanBeWritten line
read_can bytes line is some = let both = taken bytes line is in spelled_can bytes line both.0 both.1 some
