-- Comparisons and operators tell of rows that are there.
use Rattle.std.proofs.Common.{ℕ, List, [], ◌∷◌, ◌++◌, map, Bool, true, false, Result, pos}
use Rattle.whole_num.specs.Number.{sum_of, difference_of, product_of, quotient_of, remainder_of}
use Rattle.whole_num.specs.declared.number.Num.{Num}
use Rattle.whole_num.specs.declared.number.Num.TheVariants.{Whole}
use Rattle.whole_num.specs.declared.number.NumFault.{NumFault}
use Rattle.xpath_syntax.specs.declared.expression.Op.{Op}
use Rattle.xpath_syntax.specs.declared.expression.Op.TheVariants as op
use Rattle.xpath_values.specs.Comparisons.{compared}
use Rattle.xpath_values.specs.Fragments as fragments
use Rattle.xpath_values.specs.Values.{truth_of_value}
use Rattle.xpath_values.specs.declared.atom.Atom.{Atom as AnyAtom}
use Rattle.xpath_values.specs.declared.atom.Atom.TheVariants.{Text, Number, Truth}
use Rattle.xpath_values.specs.declared.value.Value.{Value}
use Rattle.xpath_values.specs.declared.value.Value.TheVariants.{Nodes, Atom, Fragment}
use Rattle.xpath_meaning.specs.Comparisons.{compare_atoms, pairs, compare_pair, some_left, some_right, nodes_with_atom, atom_with_nodes, comparison}
use Rattle.xpath_meaning.specs.Meanings.{Meant}
use Rattle.xpath_meaning.specs.Operators.{or_else, and_also, calculation, comparing, binary, minus}
use Rattle.xpath_meaning.specs.Outcome.{Outcome, calculated}
use Rattle.xpath_meaning.specs.Reading.{Reading}
use Rattle.xpath_laws.specs.Sound.{Rows, Tells, Anything, Each, IsNodeSet, IsValue, IsReading}
use Rattle.xpath_laws.proofs.Tells.{bind_tells, calculated_tells, some_tells, each_append, ordered_set}
use Rattle.xpath_laws.proofs.Sounding.{Sound, MeantSound, truth_sound, number_sound, nodes_sound}

module _ (T O : Rows) where
  abbrev Both : ℕ × ℕ → Type 0
  Both pair = T pair.0 × T pair.1

  pairs_with : (n : ℕ) → T n → (right : List ℕ) → Each T right → Each Both (map (λ k. (n, k)) right)
  pairs_with n t [] a = tt
  pairs_with n t (k ∷ ks) a = ((t, a.0), pairs_with n t ks a.1)

  all_pairs : (left right : List ℕ) → Each T left → Each T right → Each Both (pairs left right)
  all_pairs [] right a b = tt
  all_pairs (n ∷ ns) right a b = each_append Both (map (λ k. (n, k)) right) (pairs ns right) (pairs_with n a.0 right b) (all_pairs ns right a.1 b)

  atoms_told : (op : Op) (a b : AnyAtom) → Tells O Anything (compare_atoms op a b)
  atoms_told op a b = calculated_tells O (compared op a b)

  pair_told : (op : Op) (R : Reading) → IsReading T O R → (pair : ℕ × ℕ) → Both pair → Tells O Anything (compare_pair op R pair)
  pair_told op R x pair t =
      bind_tells O Anything Anything (R.value pair.0) _ (x.value pair.0 t.0) (λ a p. bind_tells O Anything Anything (R.value pair.1) _ (x.value pair.1 t.1) (λ b q. atoms_told op (Text a) (Text b)))

  left_told : (op : Op) (R : Reading) → IsReading T O R → (nodes : List ℕ) → Each T nodes → (b : AnyAtom) → Tells O Anything (some_left op R nodes b)
  left_told op R x nodes i b = some_tells O T _ nodes i (λ n t. bind_tells O Anything Anything (R.value n) _ (x.value n t) (λ a p. atoms_told op (Text a) b))

  right_told : (op : Op) (R : Reading) → IsReading T O R → (a : AnyAtom) (nodes : List ℕ) → Each T nodes → Tells O Anything (some_right op R a nodes)
  right_told op R x a nodes i = some_tells O T _ nodes i (λ n t. bind_tells O Anything Anything (R.value n) _ (x.value n t) (λ b p. atoms_told op a (Text b)))

  nodes_atom_told : (op : Op) (R : Reading) → IsReading T O R → (nodes : List ℕ) → Each T nodes → (b : AnyAtom) → Tells O Anything (nodes_with_atom op R nodes b)
  nodes_atom_told op R x nodes i (Truth b) = atoms_told op (Truth (truth_of_value (Nodes nodes))) (Truth b)
  nodes_atom_told op R x nodes i (Number n) = left_told op R x nodes i (Number n)
  nodes_atom_told op R x nodes i (Text bytes) = left_told op R x nodes i (Text bytes)

  atom_nodes_told : (op : Op) (R : Reading) → IsReading T O R → (a : AnyAtom) (nodes : List ℕ) → Each T nodes → Tells O Anything (atom_with_nodes op R a nodes)
  atom_nodes_told op R x (Truth a) nodes i = atoms_told op (Truth a) (Truth (truth_of_value (Nodes nodes)))
  atom_nodes_told op R x (Number n) nodes i = right_told op R x (Number n) nodes i
  atom_nodes_told op R x (Text bytes) nodes i = right_told op R x (Text bytes) nodes i

  comparison_told : (op : Op) (R : Reading) → IsReading T O R → (a b : Value) → IsValue T a → IsValue T b → Tells O Anything (comparison op R a b)
  comparison_told op R x (Nodes left) (Nodes right) i j = some_tells O Both (compare_pair op R) (pairs left right) (all_pairs left right i.1 j.1) (pair_told op R x)
  comparison_told op R x (Nodes left) (Atom b) i j = nodes_atom_told op R x left i.1 b
  comparison_told op R x (Nodes left) (Fragment events) i j = left_told op R x left i.1 (Text (fragments.text_of events))
  comparison_told op R x (Atom a) (Nodes right) i j = atom_nodes_told op R x a right j.1
  comparison_told op R x (Atom a) (Atom b) i j = atoms_told op a b
  comparison_told op R x (Atom a) (Fragment events) i j = atoms_told op a (fragments.beside events a)
  comparison_told op R x (Fragment events) (Nodes right) i j = right_told op R x (Text (fragments.text_of events)) right j.1
  comparison_told op R x (Fragment events) (Atom b) i j = atoms_told op (fragments.beside events b) b
  comparison_told op R x (Fragment left) (Fragment right) i j = atoms_told op (Text (fragments.text_of left)) (Text (fragments.text_of right))

  or_told : (b : Bool) (o : Outcome Bool) → Tells O Anything o → Tells O Anything (or_else b o)
  or_told true o s = tt
  or_told false o s = s

  and_told : (b : Bool) (o : Outcome Bool) → Tells O Anything o → Tells O Anything (and_also b o)
  and_told true o s = s
  and_told false o s = tt

  calculation_sound : (gives : Num → Num → Result Num NumFault) (a b : Meant) → MeantSound T O a → MeantSound T O b → Sound T O (IsValue T) (calculation gives a b)
  calculation_sound gives a b k l R values c g =
      bind_tells O Anything (IsValue T) _ _ (number_sound T O a k R values c g)
      (λ m p. bind_tells O Anything (IsValue T) _ _ (number_sound T O b l R values c g)
      (λ n q. bind_tells O Anything (IsValue T) (calculated (gives m n)) _ (calculated_tells O (gives m n)) (λ v r. tt)))

  comparing_sound : (op : Op) (a b : Meant) → MeantSound T O a → MeantSound T O b → Sound T O (IsValue T) (comparing op a b)
  comparing_sound op a b k l R values c g =
      bind_tells O (IsValue T) (IsValue T) _ _ (k.value R values c g)
      (λ v i. bind_tells O (IsValue T) (IsValue T) _ _ (l.value R values c g) (λ w j. bind_tells O Anything (IsValue T) _ _ (comparison_told op R g.reading v w i j) (λ b r. tt)))

  pub binary_sound : (o : Op) (a b : Meant) → MeantSound T O a → MeantSound T O b → Sound T O (IsValue T) (binary o a b)
  binary_sound op.Or a b k l R values c g =
      bind_tells O Anything (IsValue T) _ _ (truth_sound T O a k R values c g) (λ v p. bind_tells O Anything (IsValue T) _ _ (or_told v _ (truth_sound T O b l R values c g)) (λ w q. tt))
  binary_sound op.And a b k l R values c g =
      bind_tells O Anything (IsValue T) _ _ (truth_sound T O a k R values c g) (λ v p. bind_tells O Anything (IsValue T) _ _ (and_told v _ (truth_sound T O b l R values c g)) (λ w q. tt))
  binary_sound op.Equal a b k l R values c g = comparing_sound op.Equal a b k l R values c g
  binary_sound op.NotEqual a b k l R values c g = comparing_sound op.NotEqual a b k l R values c g
  binary_sound op.Less a b k l R values c g = comparing_sound op.Less a b k l R values c g
  binary_sound op.LessEqual a b k l R values c g = comparing_sound op.LessEqual a b k l R values c g
  binary_sound op.Greater a b k l R values c g = comparing_sound op.Greater a b k l R values c g
  binary_sound op.GreaterEqual a b k l R values c g = comparing_sound op.GreaterEqual a b k l R values c g
  binary_sound op.Add a b k l R values c g = calculation_sound sum_of a b k l R values c g
  binary_sound op.Subtract a b k l R values c g = calculation_sound difference_of a b k l R values c g
  binary_sound op.Multiply a b k l R values c g = calculation_sound product_of a b k l R values c g
  binary_sound op.Div a b k l R values c g = calculation_sound quotient_of a b k l R values c g
  binary_sound op.Mod a b k l R values c g = calculation_sound remainder_of a b k l R values c g
  binary_sound op.Union a b k l R values c g =
      bind_tells O (IsNodeSet T) (IsValue T) _ _ (nodes_sound T O a k R values c g)
      (λ v i. bind_tells O (IsNodeSet T) (IsValue T) _ _ (nodes_sound T O b l R values c g) (λ w j. ordered_set T (v ++ w) (each_append T v w i.1 j.1)))

  pub minus_sound : (a : Meant) → MeantSound T O a → Sound T O (IsValue T) (minus a)
  minus_sound a k R values c g =
      bind_tells O Anything (IsValue T) _ _ (number_sound T O a k R values c g) (λ n p. bind_tells O Anything (IsValue T) _ _ (calculated_tells O (difference_of (Whole (pos 0)) n)) (λ v q. tt))
