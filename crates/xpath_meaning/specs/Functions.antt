-- What functions tell of nodes (XPath 1.0, sections 4.1 and 4.3; XSLT 1.0, section 12).
use Rattle.std.specs.Prelude.{ℕ, List, [], ◌∷◌, ◌++◌, Bool, false, Option, Some, None, codes}
use Rattle.std.specs.Fmt.{decimal}
use Rattle.std.specs.List.{flat_map}
use Rattle.doc_model.specs.Answers.{Known}
use Rattle.doc_model.specs.declared.node_test.Test.{Test}
use Rattle.doc_model.specs.declared.node_test.Test.TheVariants as test
use Rattle.doc_model.specs.declared.row.Axis.TheVariants as axis
use Rattle.doc_model.specs.declared.row.Row.{Row}
use Rattle.whole_num.specs.Number.{sum_of}
use Rattle.whole_num.specs.Text as numbers
use Rattle.whole_num.specs.declared.number.Num.{Num}
use Rattle.whole_num.specs.declared.number.Num.TheVariants.{NaN}
use Rattle.xpath_funcs.specs.Languages.{lang_matches}
use Rattle.xpath_funcs.specs.Spaces.{words}
use Rattle.xpath_values.specs.declared.value.Value.{Value}
use Rattle.xpath_values.specs.declared.value.Value.TheVariants.{Nodes, Atom, Fragment}
use Rattle.xpath_meaning.specs.declared.context.Size.{Size}
use Rattle.xpath_meaning.specs.declared.context.Size.TheVariants as size
use Rattle.xpath_meaning.specs.Conversions.{text, number, count, text_of, first_of}
use Rattle.xpath_meaning.specs.DocumentOrder.{document_order}
use Rattle.xpath_meaning.specs.Outcome.{Outcome, ◌>>=◌, calculated, each_of}
use Rattle.xpath_meaning.specs.Reading.{Reading}
use Rattle.xpath_meaning.specs.Steps.{joined}

-- the context size; not a number where it is not asked for
abbrev pub size_value : Size → Value
size_value (size.Known n) = count n
size_value size.Unasked = number NaN

-- a name as it is written
abbrev pub qualified : List ℕ → List ℕ → List ℕ
qualified [] local = local
qualified (byte ∷ prefix) local = (byte ∷ prefix) ++ codes ":" ++ local

abbrev pub local_name : Row → List ℕ
local_name row = row.local

abbrev pub namespace_uri : Row → List ℕ
namespace_uri row = row.uri

abbrev pub full_name : Row → List ℕ
full_name row = qualified row.prefix row.local

-- `n` and the number of the row
abbrev pub generated_id : ℕ → List ℕ
generated_id n = codes "n" ++ decimal n

-- the numbers of the nodes are added to a total, in their order
abbrev pub sum_onto : Reading → Num → List ℕ → Outcome Num
sum_onto R total [] = Known total
sum_onto R total (n ∷ ns) = R.value n >>= λ bytes. calculated (numbers.number_of bytes) >>= λ x. calculated (sum_of total x) >>= λ more. sum_onto R more ns

-- the attribute xml:lang
abbrev pub lang_test : Test
lang_test = test.Name (codes "http://www.w3.org/XML/1998/namespace") (codes "lang")

abbrev pub lang_here : Reading → Option ℕ → Outcome (Option (List ℕ)) → Outcome (Option (List ℕ))
lang_here R None outer = outer
lang_here R (Some attribute) outer = R.value attribute >>= λ bytes. Known (Some bytes)

-- the first xml:lang of nodes that are given from the inside out
abbrev pub nearest_lang : Reading → List ℕ → Outcome (Option (List ℕ))
nearest_lang R [] = Known None
nearest_lang R (n ∷ ns) = R.axis axis.Attribute lang_test n >>= λ found. lang_here R (first_of found) (nearest_lang R ns)

-- the language that holds at a node
abbrev pub language_of : Reading → ℕ → Outcome (Option (List ℕ))
language_of R n = R.axis axis.AncestorOrSelf test.Any n >>= λ nodes. nearest_lang R nodes

abbrev pub speaks : Option (List ℕ) → List ℕ → Bool
speaks None asked = false
speaks (Some language) asked = lang_matches language asked

-- the strings that id() and key() look up: of a node-set each string-value, else the one string
abbrev pub texts_of : Reading → Value → Outcome (List (List ℕ))
texts_of R (Nodes nodes) = each_of (λ n. R.value n) nodes
texts_of R (Atom atom) = text_of R (Atom atom) >>= λ bytes. Known (bytes ∷ [])
texts_of R (Fragment events) = text_of R (Fragment events) >>= λ bytes. Known (bytes ∷ [])

-- what each string names, once the root is shut
abbrev pub looked_up : Reading → (List ℕ → Outcome (List ℕ)) → List (List ℕ) → Outcome Value
looked_up R finds texts = R.whole >>= λ shut. each_of finds texts >>= λ lists. Known (Nodes (document_order (joined lists)))

-- the elements whose IDs stand in these strings, each of which is split at whitespace
abbrev pub named_by_ids : Reading → Value → Outcome Value
named_by_ids R v = texts_of R v >>= λ texts. looked_up R (λ id. R.by_id id) (flat_map words texts)

-- the nodes that a key has for these strings; a key that is not bound has the empty text
abbrev pub found_by_key : Reading → Option ℕ → Value → Outcome Value
found_by_key R None v = Known (text [])
found_by_key R (Some key) v = texts_of R v >>= λ texts. looked_up R (λ value. R.by_key key value) texts
