-- The nodes that a key and an ID give (XSLT 1.0, section 12.2; XPath 1.0, section 4.1).
use Rattle.std.specs.Prelude.{ℕ, List, [], ◌∷◌, Bool, ◌&&◌, if◌then◌else◌, length, filter, Option, Some, None, bytes_eq, slice_get}
use Rattle.std.specs.List.{list_any, flat_map}
use Rattle.doc_model.specs.declared.row.Row.{Row}
use Rattle.doc_model.specs.declared.step.Step.{Step}
use Rattle.doc_model.specs.declared.strip_rule.StripRule.{StripRule}
use Rattle.doc_model.specs.Answers.{Known, with_faults, once_shut}
use Rattle.doc_model.specs.Axes.{is_attribute_of}
use Rattle.doc_model.specs.Relations.{numbers}
use Rattle.doc_model.specs.Rows.{rows_of, row_at}
use Rattle.doc_model.specs.Strip.{is_named, is_visible}
use Rattle.sheet_ast.specs.declared.sheet.KeyDecl.{KeyDecl}
use Rattle.xpath_syntax.specs.declared.expression.NameRef.{NameRef}
use Rattle.xpath_meaning.specs.declared.context.Context.{Context}
use Rattle.xpath_meaning.specs.declared.context.Size.TheVariants as size
use Rattle.xpath_meaning.specs.Evaluation.{evaluation_of}
use Rattle.xpath_meaning.specs.Functions.{texts_of}
use Rattle.xpath_meaning.specs.Match.{match_of}
use Rattle.xpath_meaning.specs.Outcome.{Outcome, ◌>>=◌, each_of, kept_from}
use Rattle.xpath_meaning.specs.Reading.{Reading}
use Rattle.xpath_meaning.specs.Tests.{bound_uri}

-- row k is the attribute without namespace of this name, with this value
abbrev pub is_id : List Row → List ℕ → List ℕ → ℕ → Bool
is_id rows name value k = is_named (row_at rows k) [] (Some name) && bytes_eq (row_at rows k).value value

-- row n has such an attribute
abbrev pub has_id : List Row → List ℕ → List ℕ → ℕ → Bool
has_id rows name value n = list_any (λ k. is_attribute_of rows n k && is_id rows name value k) (numbers 0 (length rows))

abbrev pub first_alone : List ℕ → List ℕ
first_alone [] = []
first_alone (n ∷ ns) = n ∷ []

-- of the elements with an ID the first in document order; without a name of IDs there is none
abbrev pub id_rows : Option (List ℕ) → List Row → List ℕ → List ℕ
id_rows None rows value = []
id_rows (Some name) rows value = first_alone (filter (has_id rows name value) (numbers 0 (length rows)))

-- the element that has an ID, once the root is shut
abbrev pub id_nodes_of : Option (List ℕ) → List Step → List ℕ → Outcome (List ℕ)
id_nodes_of id steps value = with_faults (once_shut steps (Some 0) (id_rows id (rows_of steps) value))

-- two names are one
abbrev pub same_name : NameRef → NameRef → Bool
same_name a b = bytes_eq (bound_uri a.uri) (bound_uri b.uri) && bytes_eq a.local b.local

abbrev pub declared_as : List KeyDecl → Option KeyDecl → List KeyDecl
declared_as keys None = []
declared_as keys (Some first) = filter (λ (key : KeyDecl). same_name first.name key.name) keys

-- the declarations of the name of the one at this place
abbrev pub declarations : List KeyDecl → ℕ → List KeyDecl
declarations keys key = declared_as keys (slice_get keys key)

-- a row by itself: alone in its list, and the current node
abbrev pub alone : ℕ → Context
alone n = record { node = n; position = 1; size = size.Known 1; current = n }

-- the strings that a declaration gives a row: the row matches before `use` is evaluated
abbrev pub strings_by : Reading → ℕ → KeyDecl → Outcome (List (List ℕ))
strings_by R n key =
    match_of R key.matches n >>= λ matches. if matches then (evaluation_of R key.value [] (alone n) >>= λ v. texts_of R v) else Known []

-- the strings that declarations give a row, in the order of the sheet
abbrev pub strings_of : Reading → List KeyDecl → ℕ → Outcome (List (List ℕ))
strings_of R keys n = each_of (strings_by R n) keys >>= λ lists. Known (flat_map (λ strings. strings) lists)

abbrev pub has_string : Reading → List KeyDecl → List ℕ → ℕ → Outcome Bool
has_string R keys value n = strings_of R keys n >>= λ strings. Known (list_any (λ string. bytes_eq string value) strings)

-- all visible rows
abbrev pub visible_rows : List StripRule → List Row → List ℕ
visible_rows rules rows = filter (is_visible rules rows) (numbers 0 (length rows))

-- the visible rows that have the string by a declaration of the key's name, once the root is shut; the first fault at any row is that of every look-up
abbrev pub key_nodes_of : Reading → List StripRule → List KeyDecl → List Step → ℕ → List ℕ → Outcome (List ℕ)
key_nodes_of R rules keys steps key value =
    with_faults (once_shut steps (Some 0) (visible_rows rules (rows_of steps))) >>= λ rows. kept_from 0 (λ at n. has_string R (declarations keys key) value n) rows
