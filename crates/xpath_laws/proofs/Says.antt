-- Functions tell of rows that are there.
use Rattle.std.proofs.Common.{ℕ, List, [], ◌∷◌, Bool, Option, Some, None, length, pos, arith}
use Rattle.std.specs.List.{flat_map}
use Rattle.doc_model.specs.declared.node_test.Test.TheVariants as test
use Rattle.doc_model.specs.declared.row.Axis.TheVariants as axis
use Rattle.doc_model.specs.declared.row.Row.{Row}
use Rattle.doc_model.specs.Answers.{Known, Fault, Open}
use Rattle.whole_num.specs.Number.{sum_of, ranged}
use Rattle.whole_num.specs.Text as numbers
use Rattle.whole_num.specs.declared.number.Num.{Num}
use Rattle.whole_num.specs.declared.number.Num.TheVariants.{Whole}
use Rattle.xpath_binding.specs.declared.functions.Function.{Function}
use Rattle.xpath_binding.specs.declared.functions.Function.TheVariants as function
use Rattle.xpath_funcs.specs.Characters.{characters}
use Rattle.xpath_funcs.specs.Spaces.{words}
use Rattle.xpath_syntax.specs.declared.expression.NameRef.{NameRef}
use Rattle.xpath_values.specs.declared.value.Value.{Value}
use Rattle.xpath_values.specs.declared.value.Value.TheVariants.{Nodes, Atom, Fragment}
use Rattle.xpath_meaning.specs.declared.context.Size.{Size}
use Rattle.xpath_meaning.specs.declared.context.Size.TheVariants as size
use Rattle.xpath_meaning.specs.Calls.{Call, taking_none, taking_one, taking_one_or_none, taking_two, taking_three, taking_two_or_three, of_text}
use Rattle.xpath_meaning.specs.Calls.{of_two_texts, of_number, of_truth, of_first, of_node, part_of_name, length_of, substring_of, substring_within}
use Rattle.xpath_meaning.specs.Calls.{translation, concatenation, own_number, speaking, called, called_if, function_of, call}
use Rattle.xpath_meaning.specs.Conversions.{number, first_of}
use Rattle.xpath_meaning.specs.Functions.{size_value, sum_onto, lang_test, lang_here, nearest_lang, language_of, texts_of, looked_up, named_by_ids, found_by_key}
use Rattle.xpath_meaning.specs.Meanings.{Meaning, Meant, text_at}
use Rattle.xpath_meaning.specs.Outcome.{Outcome, each_of}
use Rattle.xpath_meaning.specs.Reading.{Reading}
use Rattle.xpath_meaning.specs.Steps.{joined}
use Rattle.xpath_laws.specs.Sound.{Rows, Tells, Anything, Each, IsNodeSet, IsValue, IsReading}
use Rattle.xpath_laws.proofs.Tells.{Perhaps, bind_tells, calculated_tells, each_tells, joined_each, ordered_set}
use Rattle.xpath_laws.proofs.Sounding.{Sound, MeantSound, first_perhaps, text_sound, truth_sound, number_sound, nodes_sound}

pub each_anything : {A : Type 0} (xs : List A) → Each Anything xs
each_anything [] = tt
each_anything (x ∷ xs) = (tt, each_anything xs)

module _ (T O : Rows) where
  size_is_value : (s : Size) → IsValue T (size_value s)
  size_is_value (size.Known n) = tt
  size_is_value size.Unasked = tt

  sum_told : (R : Reading) → IsReading T O R → (total : Num) (nodes : List ℕ) → Each T nodes → Tells O Anything (sum_onto R total nodes)
  sum_told R x total [] a = tt
  sum_told R x total (n ∷ ns) a =
      bind_tells O Anything Anything (R.value n) _ (x.value n a.0)
      (λ bytes p. bind_tells O Anything Anything _ _ (calculated_tells O (numbers.number_of bytes))
      (λ k q. bind_tells O Anything Anything _ _ (calculated_tells O (sum_of total k)) (λ more r. sum_told R x more ns a.1)))

  here_told : (R : Reading) → IsReading T O R → (found : Option ℕ) → Perhaps T found → (outer : Outcome (Option (List ℕ))) → Tells O Anything outer → Tells O Anything (lang_here R found outer)
  here_told R x None p outer s = s
  here_told R x (Some k) p outer s = bind_tells O Anything Anything (R.value k) _ (x.value k p) (λ bytes q. tt)

  nearest_told : (R : Reading) → IsReading T O R → (nodes : List ℕ) → Each T nodes → Tells O Anything (nearest_lang R nodes)
  nearest_told R x [] a = tt
  nearest_told R x (n ∷ ns) a =
      bind_tells O (Each T) Anything (R.axis axis.Attribute lang_test n) _ (x.axis axis.Attribute lang_test n a.0)
      (λ found b. here_told R x (first_of found) (first_perhaps T O found b) _ (nearest_told R x ns a.1))

  language_told : (R : Reading) → IsReading T O R → (n : ℕ) → T n → Tells O Anything (language_of R n)
  language_told R x n t = bind_tells O (Each T) Anything (R.axis axis.AncestorOrSelf test.Any n) _ (x.axis axis.AncestorOrSelf test.Any n t) (λ nodes a. nearest_told R x nodes a)

  any_list : (o : Outcome (List (List ℕ))) → Tells O (Each Anything) o → Tells O Anything o
  any_list (Known xs) s = tt
  any_list (Fault e) s = tt
  any_list (Open m) s = s

  pub texts_told : (R : Reading) → IsReading T O R → (v : Value) → IsValue T v → Tells O Anything (texts_of R v)
  texts_told R x (Nodes nodes) i = any_list (each_of (λ n. R.value n) nodes) (each_tells O T Anything (λ n. R.value n) nodes i.1 (λ n t. x.value n t))
  texts_told R x (Atom atom) i = tt
  texts_told R x (Fragment events) i = tt

  looked_told : (R : Reading) → IsReading T O R → (f : List ℕ → Outcome (List ℕ)) → ((text : List ℕ) → Tells O (Each T) (f text)) → (texts : List (List ℕ)) → Tells O (IsValue T) (looked_up R f texts)
  looked_told R x f h texts =
      bind_tells O Anything (IsValue T) R.whole _ x.whole
      (λ shut p. bind_tells O (Each (Each T)) (IsValue T) (each_of f texts) _ (each_tells O Anything (Each T) f texts (each_anything texts) (λ text q. h text))
      (λ lists b. ordered_set T (joined lists) (joined_each T lists b)))

  ids_told : (R : Reading) → IsReading T O R → (v : Value) → IsValue T v → Tells O (IsValue T) (named_by_ids R v)
  ids_told R x v i = bind_tells O Anything (IsValue T) (texts_of R v) _ (texts_told R x v i) (λ texts p. looked_told R x (λ id. R.by_id id) x.by_id (flat_map words texts))

  keys_told : (R : Reading) → IsReading T O R → (slot : Option ℕ) (v : Value) → IsValue T v → Tells O (IsValue T) (found_by_key R slot v)
  keys_told R x None v i = tt
  keys_told R x (Some key) v i = bind_tells O Anything (IsValue T) (texts_of R v) _ (texts_told R x v i) (λ texts p. looked_told R x (λ value. R.by_key key value) (x.by_key key) texts)

  abbrev Good : Meaning (Outcome Value) → Type 0
  Good m = Sound T O (IsValue T) m

  abbrev CallSound : Call → Type 0
  CallSound f = (args : List Meant) → Each (MeantSound T O) args → Good (f args)

  abbrev Good1 : (Meant → Meaning (Outcome Value)) → Type 0
  Good1 f = (m : Meant) → MeantSound T O m → Good (f m)

  abbrev Good2 : (Meant → Meant → Meaning (Outcome Value)) → Type 0
  Good2 f = (m k : Meant) → MeantSound T O m → MeantSound T O k → Good (f m k)

  abbrev Good3 : (Meant → Meant → Meant → Meaning (Outcome Value)) → Type 0
  Good3 f = (m k l : Meant) → MeantSound T O m → MeantSound T O k → MeantSound T O l → Good (f m k l)

  none_sound : (f : Meaning (Outcome Value)) → Good f → CallSound (taking_none f)
  none_sound f h [] a R values c g = h R values c g
  none_sound f h (m ∷ ms) a R values c g = tt

  one_sound : (f : Meant → Meaning (Outcome Value)) → Good1 f → CallSound (taking_one f)
  one_sound f h [] a R values c g = tt
  one_sound f h (m ∷ []) a R values c g = h m a.0 R values c g
  one_sound f h (m ∷ k ∷ ms) a R values c g = tt

  one_or_none_sound : (f : Meaning (Outcome Value)) (e : Meant → Meaning (Outcome Value)) → Good f → Good1 e → CallSound (taking_one_or_none f e)
  one_or_none_sound f e h i [] a R values c g = h R values c g
  one_or_none_sound f e h i (m ∷ []) a R values c g = i m a.0 R values c g
  one_or_none_sound f e h i (m ∷ k ∷ ms) a R values c g = tt

  two_sound : (f : Meant → Meant → Meaning (Outcome Value)) → Good2 f → CallSound (taking_two f)
  two_sound f h [] a R values c g = tt
  two_sound f h (m ∷ []) a R values c g = tt
  two_sound f h (m ∷ k ∷ []) a R values c g = h m k a.0 a.1.0 R values c g
  two_sound f h (m ∷ k ∷ l ∷ ms) a R values c g = tt

  three_sound : (f : Meant → Meant → Meant → Meaning (Outcome Value)) → Good3 f → CallSound (taking_three f)
  three_sound f h [] a R values c g = tt
  three_sound f h (m ∷ []) a R values c g = tt
  three_sound f h (m ∷ k ∷ []) a R values c g = tt
  three_sound f h (m ∷ k ∷ l ∷ []) a R values c g = h m k l a.0 a.1.0 a.1.1.0 R values c g
  three_sound f h (m ∷ k ∷ l ∷ n ∷ ms) a R values c g = tt

  two_or_three_sound : (f : Meant → Meant → Meaning (Outcome Value)) (e : Meant → Meant → Meant → Meaning (Outcome Value)) → Good2 f → Good3 e → CallSound (taking_two_or_three f e)
  two_or_three_sound f e h i [] a R values c g = tt
  two_or_three_sound f e h i (m ∷ []) a R values c g = tt
  two_or_three_sound f e h i (m ∷ k ∷ []) a R values c g = h m k a.0 a.1.0 R values c g
  two_or_three_sound f e h i (m ∷ k ∷ l ∷ []) a R values c g = i m k l a.0 a.1.0 a.1.1.0 R values c g
  two_or_three_sound f e h i (m ∷ k ∷ l ∷ n ∷ ms) a R values c g = tt

  text_call : (f : List ℕ → Outcome Value) → ((bytes : List ℕ) → Tells O (IsValue T) (f bytes)) → CallSound (of_text f)
  text_call f h = one_or_none_sound _ _
      (λ R values c g. bind_tells O Anything (IsValue T) (R.value c.node) f (g.reading.value c.node g.context.node) (λ bytes p. h bytes))
      (λ m k R values c g. bind_tells O Anything (IsValue T) _ f (text_sound T O m k R values c g) (λ bytes p. h bytes))

  two_texts_call : (f : List ℕ → List ℕ → Value) → ((a b : List ℕ) → IsValue T (f a b)) → CallSound (of_two_texts f)
  two_texts_call f h = two_sound _
      (λ m k p q R values c g. bind_tells O Anything (IsValue T) _ _ (text_sound T O m p R values c g) (λ a r. bind_tells O Anything (IsValue T) _ _ (text_sound T O k q R values c g) (λ b s. h a b)))

  number_call : CallSound (of_number number)
  number_call = one_sound _ (λ m k R values c g. bind_tells O Anything (IsValue T) _ _ (number_sound T O m k R values c g) (λ n p. tt))

  truth_call : (f : Bool → Value) → ((b : Bool) → IsValue T (f b)) → CallSound (of_truth f)
  truth_call f h = one_sound _ (λ m k R values c g. bind_tells O Anything (IsValue T) _ _ (truth_sound T O m k R values c g) (λ b p. h b))

  of_first_told : (f : ℕ → Outcome Value) → ((n : ℕ) → T n → Tells O (IsValue T) (f n)) → (first : Option ℕ) → Perhaps T first → Tells O (IsValue T) (of_first f first)
  of_first_told f h None p = tt
  of_first_told f h (Some n) p = h n p

  node_call : (f : Reading → ℕ → Outcome Value) → ((R : Reading) → IsReading T O R → (n : ℕ) → T n → Tells O (IsValue T) (f R n)) → CallSound (of_node f)
  node_call f h = one_or_none_sound _ _ (λ R values c g. h R g.reading c.node g.context.node)
      (λ m k R values c g. bind_tells O (IsNodeSet T) (IsValue T) _ _ (nodes_sound T O m k R values c g)
      (λ nodes i. of_first_told (f R) (h R g.reading) (first_of nodes) (first_perhaps T O nodes i.1)))

  part_told : (part : Row → List ℕ) (R : Reading) → IsReading T O R → (n : ℕ) → T n → Tells O (IsValue T) (part_of_name part R n)
  part_told part R x n t = bind_tells O Anything (IsValue T) (R.row n) _ (x.row n t) (λ row p. tt)

  substring_sound : Good2 substring_of
  substring_sound m k p q R values c g =
      bind_tells O Anything (IsValue T) _ _ (text_sound T O m p R values c g) (λ bytes r. bind_tells O Anything (IsValue T) _ _ (number_sound T O k q R values c g) (λ a s. tt))

  within_sound : Good3 substring_within
  within_sound m k l p q r R values c g =
      bind_tells O Anything (IsValue T) _ _ (text_sound T O m p R values c g)
      (λ bytes s. bind_tells O Anything (IsValue T) _ _ (number_sound T O k q R values c g) (λ a t. bind_tells O Anything (IsValue T) _ _ (number_sound T O l r R values c g) (λ b u. tt)))

  translation_sound : Good3 translation
  translation_sound m k l p q r R values c g =
      bind_tells O Anything (IsValue T) _ _ (text_sound T O m p R values c g)
      (λ bytes s. bind_tells O Anything (IsValue T) _ _ (text_sound T O k q R values c g) (λ a t. bind_tells O Anything (IsValue T) _ _ (text_sound T O l r R values c g) (λ b u. tt)))

  concatenation_sound : CallSound concatenation
  concatenation_sound args a R values c g =
      bind_tells O (Each Anything) (IsValue T) (each_of (λ m. text_at m R values c) args) _
      (each_tells O (MeantSound T O) Anything (λ m. text_at m R values c) args a (λ m k. text_sound T O m k R values c g)) (λ texts p. tt)

  own_number_sound : Good own_number
  own_number_sound R values c g =
      bind_tells O Anything (IsValue T) (R.value c.node) _ (g.reading.value c.node g.context.node)
      (λ bytes p. bind_tells O Anything (IsValue T) _ _ (calculated_tells O (numbers.number_of bytes)) (λ n q. tt))

  speaking_sound : Good1 speaking
  speaking_sound m k R values c g =
      bind_tells O Anything (IsValue T) _ _ (text_sound T O m k R values c g) (λ asked p. bind_tells O Anything (IsValue T) _ _ (language_told R g.reading c.node g.context.node) (λ language q. tt))

  length_told : (bytes : List ℕ) → Tells O (IsValue T) (length_of bytes)
  length_told bytes = bind_tells O Anything (IsValue T) _ _ (calculated_tells O (ranged (pos (length (characters bytes))))) (λ n p. tt)

  called_sound : (f : Function) (name : NameRef) → CallSound (called f name)
  called_sound function.Last name = none_sound _ (λ R values c g. size_is_value c.size)
  called_sound function.Position name = none_sound _ (λ R values c g. tt)
  called_sound function.True name = none_sound _ (λ R values c g. tt)
  called_sound function.False name = none_sound _ (λ R values c g. tt)
  called_sound function.Current name = none_sound _ (λ R values c g. ((omega arith, tt), (g.context.current, tt)))
  called_sound function.Count name = one_sound _ (λ m k R values c g. bind_tells O (IsNodeSet T) (IsValue T) _ _ (nodes_sound T O m k R values c g) (λ nodes i. tt))
  called_sound function.Sum name = one_sound _ (λ m k R values c g.
      bind_tells O (IsNodeSet T) (IsValue T) _ _ (nodes_sound T O m k R values c g) (λ nodes i. bind_tells O Anything (IsValue T) _ _ (sum_told R g.reading (Whole (pos 0)) nodes i.1) (λ n p. tt)))
  called_sound function.Id name = one_sound _ (λ m k R values c g. bind_tells O (IsValue T) (IsValue T) _ (named_by_ids R) (k.value R values c g) (ids_told R g.reading))
  called_sound function.Key name = two_sound _ (λ m k p q R values c g. bind_tells O (IsValue T) (IsValue T) _ (found_by_key R name.slot) (q.value R values c g) (keys_told R g.reading name.slot))
  called_sound function.LocalName name = node_call _ (part_told _)
  called_sound function.NamespaceUri name = node_call _ (part_told _)
  called_sound function.Name name = node_call _ (part_told _)
  called_sound function.GenerateId name = node_call _ (λ R x n t. tt)
  called_sound function.String name = text_call _ (λ bytes. tt)
  called_sound function.StringLength name = text_call _ length_told
  called_sound function.NormalizeSpace name = text_call _ (λ bytes. tt)
  called_sound function.Number name = one_or_none_sound _ _ own_number_sound (λ m k R values c g. bind_tells O Anything (IsValue T) _ _ (number_sound T O m k R values c g) (λ n p. tt))
  called_sound function.Concat name = concatenation_sound
  called_sound function.StartsWith name = two_texts_call _ (λ a b. tt)
  called_sound function.Contains name = two_texts_call _ (λ a b. tt)
  called_sound function.SubstringBefore name = two_texts_call _ (λ a b. tt)
  called_sound function.SubstringAfter name = two_texts_call _ (λ a b. tt)
  called_sound function.Substring name = two_or_three_sound _ _ substring_sound within_sound
  called_sound function.Translate name = three_sound _ translation_sound
  called_sound function.Boolean name = truth_call _ (λ b. tt)
  called_sound function.Not name = truth_call _ (λ b. tt)
  called_sound function.Lang name = one_sound _ speaking_sound
  called_sound function.Floor name = number_call
  called_sound function.Ceiling name = number_call
  called_sound function.Round name = number_call

  called_if_sound : (f : Option Function) (name : NameRef) → CallSound (called_if f name)
  called_if_sound None name args a R values c g = tt
  called_if_sound (Some f) name args a R values c g = called_sound f name args a R values c g

  pub call_sound : (name : NameRef) (args : List Meant) → Each (MeantSound T O) args → Sound T O (IsValue T) (call name args)
  call_sound name args a R values c g = called_if_sound (function_of name.prefix name.local) name args a R values c g
