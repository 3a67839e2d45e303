-- Calls of functions (XPath 1.0, section 4; XSLT 1.0, section 12). A function that there is not, or that does not take so many arguments, gives the empty text.
use Rattle.std.specs.Prelude.{ℕ, List, [], ◌∷◌, Bool, true, false, not, length, Option, Some, None, pos}
use Rattle.doc_model.specs.Answers.{Known}
use Rattle.doc_model.specs.declared.row.Row.{Row}
use Rattle.whole_num.specs.Number.{ranged}
use Rattle.whole_num.specs.Text as numbers
use Rattle.whole_num.specs.declared.number.Num.{Num}
use Rattle.whole_num.specs.declared.number.Num.TheVariants.{Whole}
use Rattle.xpath_binding.specs.Functions.{functions, named_in}
use Rattle.xpath_binding.specs.declared.functions.Function.{Function}
use Rattle.xpath_binding.specs.declared.functions.Function.TheVariants as function
use Rattle.xpath_funcs.specs.Characters.{characters}
use Rattle.xpath_funcs.specs.Searches.{begins_with, contains, before, after}
use Rattle.xpath_funcs.specs.Spaces.{normalized}
use Rattle.xpath_funcs.specs.Substrings.{substring}
use Rattle.xpath_funcs.specs.Translating.{translated}
use Rattle.xpath_syntax.specs.declared.expression.NameRef.{NameRef}
use Rattle.xpath_values.specs.declared.value.Value.{Value}
use Rattle.xpath_values.specs.declared.value.Value.TheVariants.{Nodes}
use Rattle.xpath_meaning.specs.Conversions.{text, number, truth, count, first_of}
use Rattle.xpath_meaning.specs.Functions.{size_value, local_name, namespace_uri, full_name, generated_id, sum_onto, language_of, speaks, named_by_ids, found_by_key}
use Rattle.xpath_meaning.specs.Meanings.{Meaning, Meant, text_at, truth_at, number_at, nodes_at}
use Rattle.xpath_meaning.specs.Outcome.{Outcome, ◌>>=◌, calculated, each_of}
use Rattle.xpath_meaning.specs.Reading.{Reading}
use Rattle.xpath_meaning.specs.Steps.{joined}

abbrev pub Call : Type 0
Call = List Meant → Meaning (Outcome Value)

abbrev pub nothing : Outcome Value
nothing = Known (text [])

-- By the number of arguments.

abbrev pub taking_none : Meaning (Outcome Value) → Call
taking_none gives [] R values c = gives R values c
taking_none gives (m ∷ ms) R values c = nothing

abbrev pub taking_one : (Meant → Meaning (Outcome Value)) → Call
taking_one gives [] R values c = nothing
taking_one gives (m ∷ []) R values c = gives m R values c
taking_one gives (m ∷ k ∷ ms) R values c = nothing

abbrev pub taking_one_or_none : Meaning (Outcome Value) → (Meant → Meaning (Outcome Value)) → Call
taking_one_or_none without gives [] R values c = without R values c
taking_one_or_none without gives (m ∷ []) R values c = gives m R values c
taking_one_or_none without gives (m ∷ k ∷ ms) R values c = nothing

abbrev pub taking_two : (Meant → Meant → Meaning (Outcome Value)) → Call
taking_two gives [] R values c = nothing
taking_two gives (m ∷ []) R values c = nothing
taking_two gives (m ∷ k ∷ []) R values c = gives m k R values c
taking_two gives (m ∷ k ∷ l ∷ ms) R values c = nothing

abbrev pub taking_three : (Meant → Meant → Meant → Meaning (Outcome Value)) → Call
taking_three gives [] R values c = nothing
taking_three gives (m ∷ []) R values c = nothing
taking_three gives (m ∷ k ∷ []) R values c = nothing
taking_three gives (m ∷ k ∷ l ∷ []) R values c = gives m k l R values c
taking_three gives (m ∷ k ∷ l ∷ n ∷ ms) R values c = nothing

abbrev pub taking_two_or_three : (Meant → Meant → Meaning (Outcome Value)) → (Meant → Meant → Meant → Meaning (Outcome Value)) → Call
taking_two_or_three two three [] R values c = nothing
taking_two_or_three two three (m ∷ []) R values c = nothing
taking_two_or_three two three (m ∷ k ∷ []) R values c = two m k R values c
taking_two_or_three two three (m ∷ k ∷ l ∷ []) R values c = three m k l R values c
taking_two_or_three two three (m ∷ k ∷ l ∷ n ∷ ms) R values c = nothing

-- By what the arguments are: strings, numbers, node-sets.

-- of a string, which is that of the context node where there is no argument
abbrev pub of_text : (List ℕ → Outcome Value) → Call
of_text gives = taking_one_or_none (λ R values c. R.value c.node >>= gives) (λ m R values c. text_at m R values c >>= gives)

abbrev pub of_two_texts : (List ℕ → List ℕ → Value) → Call
of_two_texts gives = taking_two (λ m k R values c. text_at m R values c >>= λ a. text_at k R values c >>= λ b. Known (gives a b))

abbrev pub of_number : (Num → Value) → Call
of_number gives = taking_one (λ m R values c. number_at m R values c >>= λ n. Known (gives n))

abbrev pub of_truth : (Bool → Value) → Call
of_truth gives = taking_one (λ m R values c. truth_at m R values c >>= λ b. Known (gives b))

-- of the first node of a node-set, and the empty text where there is none; without argument it is the context node
abbrev pub of_first : (ℕ → Outcome Value) → Option ℕ → Outcome Value
of_first gives None = nothing
of_first gives (Some n) = gives n

abbrev pub of_node : (Reading → ℕ → Outcome Value) → Call
of_node gives = taking_one_or_none (λ R values c. gives R c.node) (λ m R values c. nodes_at m R values c >>= λ nodes. of_first (gives R) (first_of nodes))

abbrev pub part_of_name : (Row → List ℕ) → Reading → ℕ → Outcome Value
part_of_name part R n = R.row n >>= λ row. Known (text (part row))

-- What is left by itself.

abbrev pub length_of : List ℕ → Outcome Value
length_of bytes = calculated (ranged (pos (length (characters bytes)))) >>= λ n. Known (number n)

abbrev pub substring_of : Meant → Meant → Meaning (Outcome Value)
substring_of m from R values c = text_at m R values c >>= λ bytes. number_at from R values c >>= λ a. Known (text (substring bytes a None))

abbrev pub substring_within : Meant → Meant → Meant → Meaning (Outcome Value)
substring_within m from len R values c =
    text_at m R values c >>= λ bytes. number_at from R values c >>= λ a. number_at len R values c >>= λ b. Known (text (substring bytes a (Some b)))

abbrev pub translation : Meant → Meant → Meant → Meaning (Outcome Value)
translation m from to R values c = text_at m R values c >>= λ bytes. text_at from R values c >>= λ a. text_at to R values c >>= λ b. Known (text (translated bytes a b))

abbrev pub concatenation : Call
concatenation args R values c = each_of (λ m. text_at m R values c) args >>= λ texts. Known (text (joined texts))

abbrev pub own_number : Meaning (Outcome Value)
own_number R values c = R.value c.node >>= λ bytes. calculated (numbers.number_of bytes) >>= λ n. Known (number n)

abbrev pub speaking : Meant → Meaning (Outcome Value)
speaking m R values c = text_at m R values c >>= λ asked. language_of R c.node >>= λ language. Known (truth (speaks language asked))

-- a call of this function; a key is bound by the name of the call
abbrev pub called : Function → NameRef → Call
called function.Last name = taking_none (λ R values c. Known (size_value c.size))
called function.Position name = taking_none (λ R values c. Known (count c.position))
called function.True name = taking_none (λ R values c. Known (truth true))
called function.False name = taking_none (λ R values c. Known (truth false))
called function.Current name = taking_none (λ R values c. Known (Nodes (c.current ∷ [])))
called function.Count name = taking_one (λ m R values c. nodes_at m R values c >>= λ nodes. Known (count (length nodes)))
called function.Sum name = taking_one (λ m R values c. nodes_at m R values c >>= λ nodes. sum_onto R (Whole (pos 0)) nodes >>= λ n. Known (number n))
called function.Id name = taking_one (λ m R values c. m.value R values c >>= named_by_ids R)
called function.Key name = taking_two (λ k m R values c. m.value R values c >>= found_by_key R name.slot)
called function.LocalName name = of_node (part_of_name local_name)
called function.NamespaceUri name = of_node (part_of_name namespace_uri)
called function.Name name = of_node (part_of_name full_name)
called function.GenerateId name = of_node (λ R n. Known (text (generated_id n)))
called function.String name = of_text (λ bytes. Known (text bytes))
called function.StringLength name = of_text length_of
called function.NormalizeSpace name = of_text (λ bytes. Known (text (normalized bytes)))
called function.Number name = taking_one_or_none own_number (λ m R values c. number_at m R values c >>= λ n. Known (number n))
called function.Concat name = concatenation
called function.StartsWith name = of_two_texts (λ a b. truth (begins_with a b))
called function.Contains name = of_two_texts (λ a b. truth (contains a b))
called function.SubstringBefore name = of_two_texts (λ a b. text (before a b))
called function.SubstringAfter name = of_two_texts (λ a b. text (after a b))
called function.Substring name = taking_two_or_three substring_of substring_within
called function.Translate name = taking_three translation
called function.Boolean name = of_truth truth
called function.Not name = of_truth (λ b. truth (not b))
called function.Lang name = taking_one speaking
called function.Floor name = of_number number
called function.Ceiling name = of_number number
called function.Round name = of_number number

abbrev pub called_if : Option Function → NameRef → Call
called_if None name args R values c = nothing
called_if (Some function) name args R values c = called function name args R values c

-- the function of a name; one with a prefix is none
abbrev pub function_of : List ℕ → List ℕ → Option Function
function_of [] local = named_in functions local
function_of (byte ∷ prefix) local = None

-- a call by its name
abbrev pub call : NameRef → Call
call name args R values c = called_if (function_of name.prefix name.local) name args R values c
