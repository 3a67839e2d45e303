-- What a function gives of its arguments (XPath 1.0, section 4; XSLT 1.0, section 12).
use Rattle.std.specs.Prelude.{ℕ, List, [], ◌∷◌, map, Bool, true, false, not, length, Option, Some, None, pos}
use Rattle.doc_model.specs.Answers.{Known}
use Rattle.whole_num.specs.declared.number.Num.TheVariants as num
use Rattle.xpath_binding.specs.declared.functions.Function.{Function}
use Rattle.xpath_binding.specs.declared.functions.Function.TheVariants as function
use Rattle.xpath_funcs.specs.Searches.{begins_with, contains, before, after}
use Rattle.xpath_funcs.specs.Spaces.{normalized}
use Rattle.xpath_funcs.specs.Substrings.{substring}
use Rattle.xpath_funcs.specs.Translating.{translated}
use Rattle.xpath_meaning.specs.declared.context.Context.{Context}
use Rattle.xpath_meaning.specs.Calls.{nothing, of_first, part_of_name, length_of}
use Rattle.xpath_meaning.specs.Conversions.{text, number, truth, count, first_of}
use Rattle.xpath_meaning.specs.Functions.{size_value, local_name, namespace_uri, full_name, generated_id, sum_onto, language_of, speaks, named_by_ids, found_by_key}
use Rattle.xpath_meaning.specs.Outcome.{Outcome, ◌>>=◌}
use Rattle.xpath_meaning.specs.Reading.{Reading}
use Rattle.xpath_meaning.specs.Steps.{joined}
use Rattle.xpath_operations.specs.declared.operand.Operand.{Operand}
use Rattle.xpath_values.specs.declared.value.Value.{Value}
use Rattle.xpath_values.specs.declared.value.Value.TheVariants.{Nodes}
use Rattle.xpath_calls.specs.Taken.{text_in, text_at, truth_at, nodes_at, value_at, number_there, number_at}

-- a function on strings
abbrev pub by_texts : Function → List Operand → Outcome Value
by_texts function.String xs = Known (text (text_at xs 0))
by_texts function.StringLength xs = length_of (text_at xs 0)
by_texts function.NormalizeSpace xs = Known (text (normalized (text_at xs 0)))
by_texts function.Concat xs = Known (text (joined (map text_in xs)))
by_texts function.StartsWith xs = Known (truth (begins_with (text_at xs 0) (text_at xs 1)))
by_texts function.Contains xs = Known (truth (contains (text_at xs 0) (text_at xs 1)))
by_texts function.SubstringBefore xs = Known (text (before (text_at xs 0) (text_at xs 1)))
by_texts function.SubstringAfter xs = Known (text (after (text_at xs 0) (text_at xs 1)))
by_texts function.Substring xs = Known (text (substring (text_at xs 0) (number_at xs 1) (number_there xs 2)))
by_texts function.Translate xs = Known (text (translated (text_at xs 0) (text_at xs 1) (text_at xs 2)))
by_texts f xs = nothing

-- a function that sees no document
abbrev pub plainly : Function → List Operand → Context → Outcome Value
plainly function.Last xs c = Known (size_value c.size)
plainly function.Position xs c = Known (count c.position)
plainly function.True xs c = Known (truth true)
plainly function.False xs c = Known (truth false)
plainly function.Current xs c = Known (Nodes (c.current ∷ []))
plainly function.Count xs c = Known (count (length (nodes_at xs 0)))
plainly function.GenerateId xs c = of_first (λ n. Known (text (generated_id n))) (first_of (nodes_at xs 0))
plainly function.Number xs c = Known (number (number_at xs 0))
plainly function.Floor xs c = Known (number (number_at xs 0))
plainly function.Ceiling xs c = Known (number (number_at xs 0))
plainly function.Round xs c = Known (number (number_at xs 0))
plainly function.Boolean xs c = Known (truth (truth_at xs 0))
plainly function.Not xs c = Known (truth (not (truth_at xs 0)))
plainly f xs c = by_texts f xs

-- a function that sees the document, but no keys and IDs
abbrev pub by_nodes : Function → List Operand → Reading → Context → Outcome Value
by_nodes function.Sum xs R c = sum_onto R (num.Whole (pos 0)) (nodes_at xs 0) >>= λ n. Known (number n)
by_nodes function.LocalName xs R c = of_first (part_of_name local_name R) (first_of (nodes_at xs 0))
by_nodes function.NamespaceUri xs R c = of_first (part_of_name namespace_uri R) (first_of (nodes_at xs 0))
by_nodes function.Name xs R c = of_first (part_of_name full_name R) (first_of (nodes_at xs 0))
by_nodes function.Lang xs R c = language_of R c.node >>= λ language. Known (truth (speaks language (text_at xs 0)))
by_nodes f xs R c = plainly f xs c

abbrev pub ids_of : Option Value → Reading → Outcome Value
ids_of None R = nothing
ids_of (Some v) R = named_by_ids R v

abbrev pub keyed_by : Option ℕ → Option Value → Reading → Outcome Value
keyed_by slot None R = nothing
keyed_by slot (Some v) R = found_by_key R slot v

-- a function of its arguments; a key is bound by the name of the call
abbrev pub given : Function → Option ℕ → List Operand → Reading → Context → Outcome Value
given function.Id slot xs R c = ids_of (value_at xs 0) R
given function.Key slot xs R c = keyed_by slot (value_at xs 1) R
given f slot xs R c = by_nodes f xs R c
