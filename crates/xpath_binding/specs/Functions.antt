-- The functions of expressions, by name, and how many arguments each takes (XPath 1.0, section 4; XSLT 1.0, section 12).
use Rattle.std.specs.Prelude.{ℕ, List, [], ◌∷◌, Bool, ◌||◌, ◌==◌, nat_le, if◌then◌else◌, Option, Some, None, codes}
use Rattle.std.specs.Str.{bytes_eq}
use Rattle.xpath_binding.specs.declared.functions.Function.{Function}
use Rattle.xpath_binding.specs.declared.functions.Function.TheVariants as function

-- what a name has in a list of names, or nothing
abbrev pub named_in : List (List ℕ × Function) → List ℕ → Option Function
named_in [] name = None
named_in (entry ∷ entries) name = if bytes_eq name entry.0 then Some entry.1 else named_in entries name

abbrev pub other_functions : List (List ℕ × Function)
other_functions =
    (codes "number", function.Number) ∷ (codes "sum", function.Sum) ∷ (codes "floor", function.Floor) ∷ (codes "ceiling", function.Ceiling)
    ∷ (codes "round", function.Round) ∷ (codes "key", function.Key) ∷ (codes "current", function.Current)
    ∷ (codes "generate-id", function.GenerateId) ∷ []

abbrev pub other_text_functions : List (List ℕ × Function)
other_text_functions =
    (codes "string-length", function.StringLength) ∷ (codes "normalize-space", function.NormalizeSpace)
    ∷ (codes "translate", function.Translate) ∷ (codes "boolean", function.Boolean) ∷ (codes "not", function.Not)
    ∷ (codes "true", function.True) ∷ (codes "false", function.False) ∷ (codes "lang", function.Lang) ∷ other_functions

abbrev pub text_functions : List (List ℕ × Function)
text_functions =
    (codes "string", function.String) ∷ (codes "concat", function.Concat) ∷ (codes "starts-with", function.StartsWith)
    ∷ (codes "contains", function.Contains) ∷ (codes "substring-before", function.SubstringBefore)
    ∷ (codes "substring-after", function.SubstringAfter) ∷ (codes "substring", function.Substring) ∷ other_text_functions

abbrev pub functions : List (List ℕ × Function)
functions =
    (codes "last", function.Last) ∷ (codes "position", function.Position) ∷ (codes "count", function.Count) ∷ (codes "id", function.Id)
    ∷ (codes "local-name", function.LocalName) ∷ (codes "namespace-uri", function.NamespaceUri) ∷ (codes "name", function.Name) ∷ text_functions

-- the function takes so many arguments
abbrev pub takes : Function → ℕ → Bool
takes function.Last n = n == 0
takes function.Position n = n == 0
takes function.True n = n == 0
takes function.False n = n == 0
takes function.Current n = n == 0
takes function.LocalName n = nat_le n 1
takes function.NamespaceUri n = nat_le n 1
takes function.Name n = nat_le n 1
takes function.GenerateId n = nat_le n 1
takes function.String n = nat_le n 1
takes function.Number n = nat_le n 1
takes function.StringLength n = nat_le n 1
takes function.NormalizeSpace n = nat_le n 1
takes function.Count n = n == 1
takes function.Sum n = n == 1
takes function.Id n = n == 1
takes function.Boolean n = n == 1
takes function.Not n = n == 1
takes function.Lang n = n == 1
takes function.Floor n = n == 1
takes function.Ceiling n = n == 1
takes function.Round n = n == 1
takes function.Key n = n == 2
takes function.StartsWith n = n == 2
takes function.Contains n = n == 2
takes function.SubstringBefore n = n == 2
takes function.SubstringAfter n = n == 2
takes function.Concat n = nat_le 2 n
takes function.Substring n = n == 2 || n == 3
takes function.Translate n = n == 3
