-- Calls keep what they tell.
use Rattle.std.proofs.Common.{refl, ℕ, List, [], ◌∷◌, Bool, Option, Some, None, pos}
use Rattle.doc_model.specs.Answers.{Stays}
use Rattle.doc_model.specs.declared.row.Row.{Row}
use Rattle.whole_num.specs.Text as numbers
use Rattle.whole_num.specs.declared.number.Num.{Num}
use Rattle.whole_num.specs.declared.number.Num.TheVariants.{Whole}
use Rattle.xpath_binding.specs.declared.functions.Function.{Function}
use Rattle.xpath_binding.specs.declared.functions.Function.TheVariants as function
use Rattle.xpath_syntax.specs.declared.expression.NameRef.{NameRef}
use Rattle.xpath_values.specs.declared.value.Value.{Value}
use Rattle.xpath_meaning.specs.declared.context.Context.{Context}
use Rattle.xpath_meaning.specs.Calls.{Call, taking_none, taking_one, taking_one_or_none, taking_two, taking_three, taking_two_or_three, of_text}
use Rattle.xpath_meaning.specs.Calls.{of_two_texts, of_number, of_truth, of_first, of_node, part_of_name, substring_of, substring_within}
use Rattle.xpath_meaning.specs.Calls.{translation, concatenation, own_number, speaking, called, called_if, function_of, call}
use Rattle.xpath_meaning.specs.Conversions.{first_of}
use Rattle.xpath_meaning.specs.Meanings.{Meaning, Meant, text_at}
use Rattle.xpath_meaning.specs.Outcome.{Outcome, calculated, each_of}
use Rattle.xpath_meaning.specs.Reading.{Reading, Extends}
use Rattle.xpath_laws.proofs.Staying.{bind_stays, stays}
use Rattle.xpath_laws.proofs.Keeping.{Keeps, MeantKeeps, AllKeep, text_keeps, truth_keeps, number_keeps, nodes_keep}
use Rattle.xpath_laws.proofs.Telling.{sum_stays, language_stays, ids_stay, keys_stay}

abbrev CallKeeps : Call → Type 0
CallKeeps f = (args : List Meant) → AllKeep args → Keeps (f args)

abbrev Keeps1 : (Meant → Meaning (Outcome Value)) → Type 0
Keeps1 f = (m : Meant) → MeantKeeps m → Keeps (f m)

abbrev Keeps2 : (Meant → Meant → Meaning (Outcome Value)) → Type 0
Keeps2 f = (m k : Meant) → MeantKeeps m → MeantKeeps k → Keeps (f m k)

abbrev Keeps3 : (Meant → Meant → Meant → Meaning (Outcome Value)) → Type 0
Keeps3 f = (m k l : Meant) → MeantKeeps m → MeantKeeps k → MeantKeeps l → Keeps (f m k l)

none_keeps : (f : Meaning (Outcome Value)) → Keeps f → CallKeeps (taking_none f)
none_keeps f h [] a R Q x values c = h R Q x values c
none_keeps f h (m ∷ ms) a R Q x values c = refl

one_keeps : (f : Meant → Meaning (Outcome Value)) → Keeps1 f → CallKeeps (taking_one f)
one_keeps f h [] a R Q x values c = refl
one_keeps f h (m ∷ []) a R Q x values c = h m a.0 R Q x values c
one_keeps f h (m ∷ k ∷ ms) a R Q x values c = refl

one_or_none_keeps : (f : Meaning (Outcome Value)) (g : Meant → Meaning (Outcome Value)) → Keeps f → Keeps1 g → CallKeeps (taking_one_or_none f g)
one_or_none_keeps f g h i [] a R Q x values c = h R Q x values c
one_or_none_keeps f g h i (m ∷ []) a R Q x values c = i m a.0 R Q x values c
one_or_none_keeps f g h i (m ∷ k ∷ ms) a R Q x values c = refl

two_keeps : (f : Meant → Meant → Meaning (Outcome Value)) → Keeps2 f → CallKeeps (taking_two f)
two_keeps f h [] a R Q x values c = refl
two_keeps f h (m ∷ []) a R Q x values c = refl
two_keeps f h (m ∷ k ∷ []) a R Q x values c = h m k a.0 a.1.0 R Q x values c
two_keeps f h (m ∷ k ∷ l ∷ ms) a R Q x values c = refl

three_keeps : (f : Meant → Meant → Meant → Meaning (Outcome Value)) → Keeps3 f → CallKeeps (taking_three f)
three_keeps f h [] a R Q x values c = refl
three_keeps f h (m ∷ []) a R Q x values c = refl
three_keeps f h (m ∷ k ∷ []) a R Q x values c = refl
three_keeps f h (m ∷ k ∷ l ∷ []) a R Q x values c = h m k l a.0 a.1.0 a.1.1.0 R Q x values c
three_keeps f h (m ∷ k ∷ l ∷ n ∷ ms) a R Q x values c = refl

two_or_three_keeps : (f : Meant → Meant → Meaning (Outcome Value)) (g : Meant → Meant → Meant → Meaning (Outcome Value)) → Keeps2 f → Keeps3 g → CallKeeps (taking_two_or_three f g)
two_or_three_keeps f g h i [] a R Q x values c = refl
two_or_three_keeps f g h i (m ∷ []) a R Q x values c = refl
two_or_three_keeps f g h i (m ∷ k ∷ []) a R Q x values c = h m k a.0 a.1.0 R Q x values c
two_or_three_keeps f g h i (m ∷ k ∷ l ∷ []) a R Q x values c = i m k l a.0 a.1.0 a.1.1.0 R Q x values c
two_or_three_keeps f g h i (m ∷ k ∷ l ∷ n ∷ ms) a R Q x values c = refl

text_call : (f : List ℕ → Outcome Value) → CallKeeps (of_text f)
text_call f = one_or_none_keeps _ _ (λ R Q x values c. bind_stays _ _ _ _ (x.value c.node) (λ bytes. stays (f bytes)))
    (λ m k R Q x values c. bind_stays _ _ _ _ (text_keeps m k R Q x values c) (λ bytes. stays (f bytes)))

two_texts_call : (f : List ℕ → List ℕ → Value) → CallKeeps (of_two_texts f)
two_texts_call f = two_keeps _ (λ m k p q R Q x values c. bind_stays _ _ _ _ (text_keeps m p R Q x values c) (λ a. bind_stays _ _ _ _ (text_keeps k q R Q x values c) (λ b. refl)))

number_call : (f : Num → Value) → CallKeeps (of_number f)
number_call f = one_keeps _ (λ m k R Q x values c. bind_stays _ _ _ _ (number_keeps m k R Q x values c) (λ n. refl))

truth_call : (f : Bool → Value) → CallKeeps (of_truth f)
truth_call f = one_keeps _ (λ m k R Q x values c. bind_stays _ _ _ _ (truth_keeps m k R Q x values c) (λ b. refl))

first_stays : (f g : ℕ → Outcome Value) → ((n : ℕ) → Stays (f n) (g n)) → (first : Option ℕ) → Stays (of_first f first) (of_first g first)
first_stays f g h None = refl
first_stays f g h (Some n) = h n

node_call : (f : Reading → ℕ → Outcome Value) → ((R Q : Reading) → Extends R Q → (n : ℕ) → Stays (f R n) (f Q n)) → CallKeeps (of_node f)
node_call f h = one_or_none_keeps _ _ (λ R Q x values c. h R Q x c.node)
    (λ m k R Q x values c. bind_stays _ _ _ _ (nodes_keep m k R Q x values c) (λ nodes. first_stays (f R) (f Q) (h R Q x) (first_of nodes)))

part_stays : (part : Row → List ℕ) (R Q : Reading) → Extends R Q → (n : ℕ) → Stays (part_of_name part R n) (part_of_name part Q n)
part_stays part R Q x n = bind_stays _ _ _ _ (x.row n) (λ row. refl)

substring_keeps : Keeps2 substring_of
substring_keeps m k p q R Q x values c = bind_stays _ _ _ _ (text_keeps m p R Q x values c) (λ bytes. bind_stays _ _ _ _ (number_keeps k q R Q x values c) (λ a. refl))

within_keeps : Keeps3 substring_within
within_keeps m k l p q r R Q x values c =
    bind_stays _ _ _ _ (text_keeps m p R Q x values c) (λ bytes. bind_stays _ _ _ _ (number_keeps k q R Q x values c) (λ a. bind_stays _ _ _ _ (number_keeps l r R Q x values c) (λ b. refl)))

translation_keeps : Keeps3 translation
translation_keeps m k l p q r R Q x values c =
    bind_stays _ _ _ _ (text_keeps m p R Q x values c) (λ bytes. bind_stays _ _ _ _ (text_keeps k q R Q x values c) (λ a. bind_stays _ _ _ _ (text_keeps l r R Q x values c) (λ b. refl)))

texts_stay : (args : List Meant) → AllKeep args → (R Q : Reading) → Extends R Q → (values : List Value) (c : Context)
    → Stays (each_of (λ m. text_at m R values c) args) (each_of (λ m. text_at m Q values c) args)
texts_stay [] a R Q x values c = refl
texts_stay (m ∷ ms) a R Q x values c = bind_stays _ _ _ _ (text_keeps m a.0 R Q x values c) (λ y. bind_stays _ _ _ _ (texts_stay ms a.1 R Q x values c) (λ ys. refl))

concatenation_keeps : CallKeeps concatenation
concatenation_keeps args a R Q x values c = bind_stays _ _ _ _ (texts_stay args a R Q x values c) (λ texts. refl)

own_number_keeps : Keeps own_number
own_number_keeps R Q x values c = bind_stays _ _ _ _ (x.value c.node) (λ bytes. bind_stays _ _ _ _ (stays (calculated (numbers.number_of bytes))) (λ n. refl))

speaking_keeps : Keeps1 speaking
speaking_keeps m k R Q x values c = bind_stays _ _ _ _ (text_keeps m k R Q x values c) (λ asked. bind_stays _ _ _ _ (language_stays R Q x c.node) (λ language. refl))

called_keeps : (f : Function) (name : NameRef) → CallKeeps (called f name)
called_keeps function.Last name = none_keeps _ (λ R Q x values c. refl)
called_keeps function.Position name = none_keeps _ (λ R Q x values c. refl)
called_keeps function.True name = none_keeps _ (λ R Q x values c. refl)
called_keeps function.False name = none_keeps _ (λ R Q x values c. refl)
called_keeps function.Current name = none_keeps _ (λ R Q x values c. refl)
called_keeps function.Count name = one_keeps _ (λ m k R Q x values c. bind_stays _ _ _ _ (nodes_keep m k R Q x values c) (λ nodes. refl))
called_keeps function.Sum name =
    one_keeps _ (λ m k R Q x values c. bind_stays _ _ _ _ (nodes_keep m k R Q x values c) (λ nodes. bind_stays _ _ _ _ (sum_stays R Q x (Whole (pos 0)) nodes) (λ n. refl)))
called_keeps function.Id name = one_keeps _ (λ m k R Q x values c. bind_stays _ _ _ _ (k.value R Q x values c) (ids_stay R Q x))
called_keeps function.Key name = two_keeps _ (λ m k p q R Q x values c. bind_stays _ _ _ _ (q.value R Q x values c) (keys_stay R Q x name.slot))
called_keeps function.LocalName name = node_call _ (part_stays _)
called_keeps function.NamespaceUri name = node_call _ (part_stays _)
called_keeps function.Name name = node_call _ (part_stays _)
called_keeps function.GenerateId name = node_call _ (λ R Q x n. refl)
called_keeps function.String name = text_call _
called_keeps function.StringLength name = text_call _
called_keeps function.NormalizeSpace name = text_call _
called_keeps function.Number name = one_or_none_keeps _ _ own_number_keeps (λ m k R Q x values c. bind_stays _ _ _ _ (number_keeps m k R Q x values c) (λ n. refl))
called_keeps function.Concat name = concatenation_keeps
called_keeps function.StartsWith name = two_texts_call _
called_keeps function.Contains name = two_texts_call _
called_keeps function.SubstringBefore name = two_texts_call _
called_keeps function.SubstringAfter name = two_texts_call _
called_keeps function.Substring name = two_or_three_keeps _ _ substring_keeps within_keeps
called_keeps function.Translate name = three_keeps _ translation_keeps
called_keeps function.Boolean name = truth_call _
called_keeps function.Not name = truth_call _
called_keeps function.Lang name = one_keeps _ speaking_keeps
called_keeps function.Floor name = number_call _
called_keeps function.Ceiling name = number_call _
called_keeps function.Round name = number_call _

called_if_keeps : (f : Option Function) (name : NameRef) → CallKeeps (called_if f name)
called_if_keeps None name args a R Q x values c = refl
called_if_keeps (Some f) name args a R Q x values c = called_keeps f name args a R Q x values c

pub call_keeps : (name : NameRef) (args : List Meant) → AllKeep args → Keeps (call name args)
call_keeps name args a R Q x values c = called_if_keeps (function_of name.prefix name.local) name args a R Q x values c
