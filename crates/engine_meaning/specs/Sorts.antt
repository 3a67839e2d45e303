-- Nodes in the order of their sort keys (XSLT 1.0, section 10).
use Rattle.std.specs.Prelude.{ℕ, suc, List, [], ◌∷◌, Bool, true, false, length, map, unwrap_or, slice_get}
use Rattle.std.specs.List.{range_with_len}
use Rattle.doc_model.specs.Answers.{Known}
use Rattle.rule_choice.specs.Sorting.{sorted_by}
use Rattle.sheet_ast.specs.declared.instruction.SortDecl.{SortDecl}
use Rattle.sort_keys.specs.Order.{place_cmp}
use Rattle.sort_keys.specs.declared.key.How.{How}
use Rattle.sort_keys.specs.declared.key.KeyPart.{KeyPart}
use Rattle.sort_keys.specs.declared.key.KeyPart.TheVariants.{Text, Number}
use Rattle.whole_num.specs.Text as numbers
use Rattle.xpath_syntax.specs.declared.expression.Expr.{Expr}
use Rattle.xpath_meaning.specs.declared.context.Context.{Context}
use Rattle.xpath_meaning.specs.declared.context.Size.{Size}
use Rattle.xpath_meaning.specs.declared.context.Size.TheVariants as size
use Rattle.xpath_meaning.specs.Outcome.{Outcome, ◌>>=◌, calculated, each_of}
use Rattle.engine_meaning.specs.Places.{Setting, Place, place, at_item}
use Rattle.engine_meaning.specs.Questions.{text_at, nodes_at}

abbrev pub key_part : Bool → List ℕ → Outcome KeyPart
key_part true text = calculated (numbers.number_of text) >>= λ number. Known (Number number)
key_part false text = Known (Text text)

-- one sort key of an item: a string, and then, for the data type number, its number
abbrev pub key_at : Setting → Place → Context → SortDecl → Outcome KeyPart
key_at W c item sort = text_at W (place item c.locals) sort.select >>= key_part sort.number

-- the sort keys of an item, in order
abbrev pub keys_at : Setting → Place → List SortDecl → Context → Outcome (List KeyPart)
keys_at W c sorts item = each_of (key_at W c item) sorts

-- the sort keys of each item in order, the first of which has this position in the selection
abbrev pub rows_from : Setting → Place → List SortDecl → Size → ℕ → List ℕ → Outcome (List (List KeyPart))
rows_from W c sorts size position [] = Known []
rows_from W c sorts size position (n ∷ ns) =
    keys_at W c sorts (at_item size position n) >>= λ row. rows_from W c sorts size (suc position) ns >>= λ rows. Known (row ∷ rows)

abbrev pub how_of : SortDecl → How
how_of sort = record { number = sort.number; descending = sort.descending }

-- the places of the items by their sort keys; items whose keys are all equal keep their order
unfoldable pub sorted_places_of : List How → List (List KeyPart) → List ℕ
sorted_places_of hows rows = sorted_by (place_cmp hows rows) (range_with_len 0 (length rows))

abbrev pub node_in : List ℕ → ℕ → ℕ
node_in nodes place = unwrap_or (slice_get nodes place) 0

-- the items in the order of their sort keys
abbrev pub in_key_order : List SortDecl → List ℕ → List (List KeyPart) → List ℕ
in_key_order sorts nodes rows = map (node_in nodes) (sorted_places_of (map how_of sorts) rows)

-- what a select gives that is sorted: its nodes whole, then the keys of each of them
abbrev pub sorted_nodes : Setting → Place → Expr → List SortDecl → Outcome (List ℕ)
sorted_nodes W c select sorts =
    nodes_at W c select >>= λ nodes. rows_from W c sorts (size.Known (length nodes)) 1 nodes >>= λ rows. Known (in_key_order sorts nodes rows)
