-- Templates and bodies over the items of a select (XSLT 1.0, sections 5.4 and 8).
use Rattle.std.specs.Prelude.{ℕ, suc, List, [], ◌∷◌, Bool, true, false, length, Option, Some, None}
use Rattle.doc_model.specs.declared.node_test.Test.TheVariants as test
use Rattle.doc_model.specs.declared.row.Axis.TheVariants as axis
use Rattle.sheet_ast.specs.declared.instruction.SortDecl.{SortDecl}
use Rattle.xpath_syntax.specs.declared.expression.Expr.{Expr}
use Rattle.xpath_meaning.specs.declared.context.Context.{Context}
use Rattle.xpath_meaning.specs.declared.context.Size.{Size}
use Rattle.xpath_meaning.specs.declared.context.Size.TheVariants as size
use Rattle.xpath_meaning.specs.Evaluation.{meant}
use Rattle.xpath_meaning.specs.Meanings.{Meaning}
use Rattle.xpath_meaning.specs.Streams.{Stream, Ending, Whole, Fault, Cut}
use Rattle.engine_meaning.specs.Places.{Setting, Place, values_at, at_item}
use Rattle.engine_meaning.specs.Questions.{nodes_at}
use Rattle.engine_meaning.specs.Runs.{Run, Waits, ◌>>=◌, ◌>>◌, pure, fail, ask}
use Rattle.engine_meaning.specs.Sizes.{asks_size}
use Rattle.engine_meaning.specs.Sorts.{sorted_nodes}

-- what is done at an item
abbrev pub AtItem : Type 0
AtItem = Context → Run (Unit {0})

-- what comes after the items
abbrev pub ends : Ending → Run (Unit {0})
ends Whole = pure tt
ends (Fault fault) = fail fault
ends (Cut m) = λ s. Waits m s

-- each item in order, the first of which has this position, and then what comes after them
abbrev pub each : AtItem → Size → ℕ → List ℕ → Ending → Run (Unit {0})
each act size position [] ending = ends ending
each act size position (n ∷ ns) ending = act (at_item size position n) >> each act size (suc position) ns ending

-- items that are taken one by one: what is done at one comes before the next is looked for, and how many there are is not known
abbrev pub streamed : AtItem → Stream → Run (Unit {0})
streamed act stream = each act size.Unasked 1 stream.items stream.ending

-- nodes that are known whole
abbrev pub over : AtItem → List ℕ → Run (Unit {0})
over act nodes = each act (size.Known (length nodes)) 1 nodes Whole

abbrev pub unsorted : Option (Meaning Stream) → Setting → Place → Expr → AtItem → Run (Unit {0})
unsorted (Some items) W c select act = streamed act (items W.world.reading (values_at W c) c.context)
unsorted None W c select act = ask (nodes_at W c select) >>= over act

-- the items of a select: a path whose nodes may be taken one by one is, where it is not sorted; any other select is known whole first
abbrev pub selected : Setting → Place → Expr → List SortDecl → AtItem → Run (Unit {0})
selected W c select [] act = unsorted (meant select).items W c select act
selected W c select (sort ∷ sorts) act = ask (sorted_nodes W c select (sort ∷ sorts)) >>= over act

abbrev pub children_by : Bool → Setting → ℕ → AtItem → Run (Unit {0})
children_by true W n act = ask (W.world.reading.axis axis.Child test.Any n) >>= over act
children_by false W n act = streamed act (W.world.reading.children test.Any n)

-- the children of a node, which the built-in rules select (XSLT 1.0, section 5.8): one by one, unless the stylesheet asks for sizes
abbrev pub children_of : Setting → ℕ → AtItem → Run (Unit {0})
children_of W n act = children_by (asks_size W.sheet) W n act
