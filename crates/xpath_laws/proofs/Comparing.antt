-- Comparisons keep what they tell.
use Rattle.std.proofs.Common.{ℕ, List}
use Rattle.doc_model.specs.Answers.{Stays}
use Rattle.xpath_syntax.specs.declared.expression.Op.{Op}
use Rattle.xpath_values.specs.Fragments as fragments
use Rattle.xpath_values.specs.Values.{truth_of_value}
use Rattle.xpath_values.specs.declared.atom.Atom.{Atom as AnyAtom}
use Rattle.xpath_values.specs.declared.atom.Atom.TheVariants.{Text, Number, Truth}
use Rattle.xpath_values.specs.declared.value.Value.{Value}
use Rattle.xpath_values.specs.declared.value.Value.TheVariants.{Nodes, Atom, Fragment}
use Rattle.xpath_meaning.specs.Comparisons.{compare_atoms, pairs, compare_pair, some_left, some_right, nodes_with_atom, atom_with_nodes, comparison}
use Rattle.xpath_meaning.specs.Reading.{Reading, Extends}
use Rattle.xpath_laws.proofs.Staying.{bind_stays, stays, some_stays}

pair_stays : (op : Op) (R Q : Reading) → Extends R Q → (pair : ℕ × ℕ) → Stays (compare_pair op R pair) (compare_pair op Q pair)
pair_stays op R Q x pair = bind_stays (R.value pair.0) (Q.value pair.0) _ _ (x.value pair.0)
    (λ a. bind_stays (R.value pair.1) (Q.value pair.1) _ _ (x.value pair.1) (λ b. stays (compare_atoms op (Text a) (Text b))))

left_stays : (op : Op) (R Q : Reading) → Extends R Q → (nodes : List ℕ) (b : AnyAtom) → Stays (some_left op R nodes b) (some_left op Q nodes b)
left_stays op R Q x nodes b = some_stays _ _ nodes (λ n. bind_stays (R.value n) (Q.value n) _ _ (x.value n) (λ a. stays (compare_atoms op (Text a) b)))

right_stays : (op : Op) (R Q : Reading) → Extends R Q → (a : AnyAtom) (nodes : List ℕ) → Stays (some_right op R a nodes) (some_right op Q a nodes)
right_stays op R Q x a nodes = some_stays _ _ nodes (λ n. bind_stays (R.value n) (Q.value n) _ _ (x.value n) (λ b. stays (compare_atoms op a (Text b))))

nodes_atom_stays : (op : Op) (R Q : Reading) → Extends R Q → (nodes : List ℕ) (b : AnyAtom) → Stays (nodes_with_atom op R nodes b) (nodes_with_atom op Q nodes b)
nodes_atom_stays op R Q x nodes (Truth b) = stays (compare_atoms op (Truth (truth_of_value (Nodes nodes))) (Truth b))
nodes_atom_stays op R Q x nodes (Number n) = left_stays op R Q x nodes (Number n)
nodes_atom_stays op R Q x nodes (Text bytes) = left_stays op R Q x nodes (Text bytes)

atom_nodes_stays : (op : Op) (R Q : Reading) → Extends R Q → (a : AnyAtom) (nodes : List ℕ) → Stays (atom_with_nodes op R a nodes) (atom_with_nodes op Q a nodes)
atom_nodes_stays op R Q x (Truth a) nodes = stays (compare_atoms op (Truth a) (Truth (truth_of_value (Nodes nodes))))
atom_nodes_stays op R Q x (Number n) nodes = right_stays op R Q x (Number n) nodes
atom_nodes_stays op R Q x (Text bytes) nodes = right_stays op R Q x (Text bytes) nodes

pub comparison_stays : (op : Op) (R Q : Reading) → Extends R Q → (a b : Value) → Stays (comparison op R a b) (comparison op Q a b)
comparison_stays op R Q x (Nodes left) (Nodes right) = some_stays (compare_pair op R) (compare_pair op Q) (pairs left right) (pair_stays op R Q x)
comparison_stays op R Q x (Nodes left) (Atom b) = nodes_atom_stays op R Q x left b
comparison_stays op R Q x (Nodes left) (Fragment events) = left_stays op R Q x left (Text (fragments.text_of events))
comparison_stays op R Q x (Atom a) (Nodes right) = atom_nodes_stays op R Q x a right
comparison_stays op R Q x (Atom a) (Atom b) = stays (compare_atoms op a b)
comparison_stays op R Q x (Atom a) (Fragment events) = stays (compare_atoms op a (fragments.beside events a))
comparison_stays op R Q x (Fragment events) (Nodes right) = right_stays op R Q x (Text (fragments.text_of events)) right
comparison_stays op R Q x (Fragment events) (Atom b) = stays (compare_atoms op (fragments.beside events b) b)
comparison_stays op R Q x (Fragment left) (Fragment right) = stays (compare_atoms op (Text (fragments.text_of left)) (Text (fragments.text_of right)))
