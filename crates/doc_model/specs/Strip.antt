-- Which texts a list of strip rules hides (XSLT 1.0, section 3.4).
use Rattle.std.specs.Prelude.{ℕ, zero, suc, ◌+◌, Bool, true, false, not, ◌&&◌, ◌||◌, ◌==◌, nat_le, nat_lt, if◌then◌else◌, List, [], ◌∷◌, Option, Some, None, drop, codes, bytes_eq}
use Rattle.doc_model.specs.declared.row.Kind.{Kind}
use Rattle.doc_model.specs.declared.row.Kind.TheVariants.{Root, Element, Attribute, Text, Instruction, Comment}
use Rattle.doc_model.specs.declared.row.Row.{Row}
use Rattle.doc_model.specs.declared.strip_rule.StripRule.{StripRule}
use Rattle.doc_model.specs.Document.{is_attribute}
use Rattle.doc_model.specs.Relations.{parent_of}
use Rattle.doc_model.specs.Rows.{root_row, row_at}

-- space, tab, LF or CR
abbrev pub is_white : ℕ → Bool
is_white byte = (byte == 32) || ((byte == 9) || ((byte == 10) || (byte == 13)))

abbrev pub all_white : List ℕ → Bool
all_white [] = true
all_white (byte ∷ bytes) = is_white byte && all_white bytes

abbrev pub is_text : Kind → Bool
is_text Root = false
is_text Element = false
is_text Attribute = false
is_text Text = true
is_text Instruction = false
is_text Comment = false

abbrev pub is_element : Kind → Bool
is_element Root = false
is_element Element = true
is_element Attribute = false
is_element Text = false
is_element Instruction = false
is_element Comment = false

-- a text of whitespace alone
abbrev pub is_blank : Row → Bool
is_blank row = is_text row.kind && all_white row.value

-- these bytes, where any are asked for
abbrev pub has_part : Option (List ℕ) → List ℕ → Bool
has_part None bytes = true
has_part (Some part) bytes = bytes_eq bytes part

-- a row with this URI, and with this local name where one is given
abbrev pub is_named : Row → List ℕ → Option (List ℕ) → Bool
is_named row uri local = bytes_eq row.uri uri && has_part local row.local

abbrev pub rule_fits : StripRule → Row → Bool
rule_fits rule row = has_part rule.uri row.uri && has_part rule.local row.local

abbrev pub part_count : Option (List ℕ) → ℕ
part_count None = 0
part_count (Some part) = 1

-- the default priority of a rule's name test: a name over `prefix:*`, and that over `*`
abbrev pub rank : StripRule → ℕ
rank rule = part_count rule.uri + part_count rule.local

-- a rule holds over one that stands before it: of higher import precedence, or of the same and no lower rank
abbrev pub outranks : StripRule → StripRule → Bool
outranks rule best = nat_lt best.precedence rule.precedence || ((best.precedence == rule.precedence) && nat_le (rank best) (rank rule))

abbrev pub holds_over : StripRule → Option StripRule → Bool
holds_over rule None = true
holds_over rule (Some best) = outranks rule best

abbrev pub best_from : Option StripRule → List StripRule → Row → Option StripRule
best_from best [] row = best
best_from best (rule ∷ rules) row = best_from (if rule_fits rule row && holds_over rule best then Some rule else best) rules row

abbrev pub says_strip : Option StripRule → Bool
says_strip None = false
says_strip (Some rule) = rule.strip

-- the rules strip the texts of the element
abbrev pub strips : List StripRule → Row → Bool
strips rules row = says_strip (best_from None rules row) && is_element row.kind

-- what an attribute says of whitespace, if it is xml:space with one of its two values: whether to preserve it
abbrev pub says_space : Row → Option Bool
says_space row =
    if is_named row (codes "http://www.w3.org/XML/1998/namespace") (Some (codes "space"))
    then (if bytes_eq row.value (codes "preserve") then Some true else (if bytes_eq row.value (codes "default") then Some false else None))
    else None

abbrev pub or_else : Option Bool → Option Bool → Option Bool
or_else None later = later
or_else (Some said) later = Some said

-- what the attributes at the front say
abbrev pub space_in : List Row → Option Bool
space_in [] = None
space_in (row ∷ rows) = if is_attribute row.kind then or_else (says_space row) (space_in rows) else None

abbrev pub unless_said : Option Bool → Bool → Bool
unless_said None above = above
unless_said (Some said) above = said

-- whether the nearest xml:space of the row and its ancestors, of which there are at most so many, preserves whitespace
abbrev pub keeps_from : List Row → ℕ → Option ℕ → Bool
keeps_from rows most None = false
keeps_from rows zero (Some n) = false
keeps_from rows (suc most) (Some n) = unless_said (space_in (drop (suc n) rows)) (keeps_from rows most (parent_of rows n))

abbrev pub keeps_space : List Row → ℕ → Bool
keeps_space rows k = keeps_from rows k (parent_of rows k)

abbrev pub row_or_root : List Row → Option ℕ → Row
row_or_root rows None = root_row
row_or_root rows (Some n) = row_at rows n

-- row k is visible: no whitespace text whose parent's name the rules strip and where no xml:space preserves it
abbrev pub is_visible : List StripRule → List Row → ℕ → Bool
is_visible rules rows k =
    not (strips rules (row_or_root rows (parent_of rows k)) && (is_blank (row_at rows k) && not (keeps_space rows k)))

-- a rule that gives a local name gives a URI
abbrev pub parts_spelled : Option (List ℕ) → Option (List ℕ) → Bool
parts_spelled None None = true
parts_spelled None (Some local) = false
parts_spelled (Some uri) local = true

abbrev pub is_spelled : StripRule → Bool
is_spelled rule = parts_spelled rule.uri rule.local

abbrev pub all_spelled : List StripRule → Bool
all_spelled [] = true
all_spelled (rule ∷ rules) = is_spelled rule && all_spelled rules
