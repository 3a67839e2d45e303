-- Comparisons (XPath 1.0, section 3.4).
use Rattle.std.specs.Prelude.{ℕ, List, Bool, map}
use Rattle.std.specs.List.{flat_map}
use Rattle.xpath_syntax.specs.declared.expression.Op.{Op}
use Rattle.xpath_values.specs.Comparisons.{compared}
use Rattle.xpath_values.specs.Fragments as fragments
use Rattle.xpath_values.specs.Values.{truth_of_value}
use Rattle.xpath_values.specs.declared.atom.Atom.{Atom as AnyAtom}
use Rattle.xpath_values.specs.declared.atom.Atom.TheVariants.{Text, Number, Truth}
use Rattle.xpath_values.specs.declared.value.Value.{Value}
use Rattle.xpath_values.specs.declared.value.Value.TheVariants.{Nodes, Atom, Fragment}
use Rattle.xpath_meaning.specs.Outcome.{Outcome, ◌>>=◌, calculated, some_holds}
use Rattle.xpath_meaning.specs.Reading.{Reading}

abbrev pub compare_atoms : Op → AnyAtom → AnyAtom → Outcome Bool
compare_atoms op a b = calculated (compared op a b)

-- the pairs of two lists: for each of the left all of the right, in order
abbrev pub pairs : List ℕ → List ℕ → List (ℕ × ℕ)
pairs left right = flat_map (λ n. map (λ k. (n, k)) right) left

abbrev pub compare_pair : Op → Reading → ℕ × ℕ → Outcome Bool
compare_pair op R pair = R.value pair.0 >>= λ a. R.value pair.1 >>= λ b. compare_atoms op (Text a) (Text b)

-- node by node, up to the first that holds
abbrev pub some_left : Op → Reading → List ℕ → AnyAtom → Outcome Bool
some_left op R nodes b = some_holds (λ n. R.value n >>= λ a. compare_atoms op (Text a) b) nodes

abbrev pub some_right : Op → Reading → AnyAtom → List ℕ → Outcome Bool
some_right op R a nodes = some_holds (λ n. R.value n >>= λ b. compare_atoms op a (Text b)) nodes

-- a node-set beside a boolean is a boolean as a whole; beside any other atom its nodes are compared
abbrev pub nodes_with_atom : Op → Reading → List ℕ → AnyAtom → Outcome Bool
nodes_with_atom op R nodes (Truth b) = compare_atoms op (Truth (truth_of_value (Nodes nodes))) (Truth b)
nodes_with_atom op R nodes (Number n) = some_left op R nodes (Number n)
nodes_with_atom op R nodes (Text bytes) = some_left op R nodes (Text bytes)

abbrev pub atom_with_nodes : Op → Reading → AnyAtom → List ℕ → Outcome Bool
atom_with_nodes op R (Truth a) nodes = compare_atoms op (Truth a) (Truth (truth_of_value (Nodes nodes)))
atom_with_nodes op R (Number n) nodes = some_right op R (Number n) nodes
atom_with_nodes op R (Text bytes) nodes = some_right op R (Text bytes) nodes

-- two values; a fragment compares as its string, beside a boolean as true
abbrev pub comparison : Op → Reading → Value → Value → Outcome Bool
comparison op R (Nodes left) (Nodes right) = some_holds (compare_pair op R) (pairs left right)
comparison op R (Nodes left) (Atom b) = nodes_with_atom op R left b
comparison op R (Nodes left) (Fragment events) = some_left op R left (Text (fragments.text_of events))
comparison op R (Atom a) (Nodes right) = atom_with_nodes op R a right
comparison op R (Atom a) (Atom b) = compare_atoms op a b
comparison op R (Atom a) (Fragment events) = compare_atoms op a (fragments.beside events a)
comparison op R (Fragment events) (Nodes right) = some_right op R (Text (fragments.text_of events)) right
comparison op R (Fragment events) (Atom b) = compare_atoms op (fragments.beside events b) b
comparison op R (Fragment left) (Fragment right) = compare_atoms op (Text (fragments.text_of left)) (Text (fragments.text_of right))
