-- With which prefixes an element and its attributes are written, and what the element declares for them. Bindings are given with the latest first.
use Rattle.std.specs.Prelude.{ℕ, List, [], ◌∷◌, ◌++◌, Bool, false, ◌||◌, ◌==◌, if◌then◌else◌, length, map, reverse, Option, Some, None, is_some, codes}
use Rattle.std.specs.List.{list_any}
use Rattle.std.specs.Str.{bytes_eq}
use Rattle.result_events.specs.declared.event.Name.{Name}
use Rattle.result_events.specs.declared.event.Attribute.{Attribute}
use Rattle.pyx_lines.specs.declared.line.Line.{Line}
use Rattle.pyx_lines.specs.declared.line.Line.TheVariants as line
use Rattle.xml_names.specs.declared.scopes.Binding.{Binding}
use Rattle.xml_names.specs.Bindings.{xml_binding, is_fixed, uri_in, unless_empty}
use Rattle.pyx_output.specs.Numbered.{numbered, first_free}

-- a name as it is written
abbrev pub qualified : List ℕ → List ℕ → List ℕ
qualified [] local = local
qualified (b ∷ prefix) local = b ∷ prefix ++ 58 ∷ local

-- the prefix is bound to the URI, which isn't empty
abbrev pub binds : List Binding → List ℕ → List ℕ → Bool
binds bound prefix uri = is_bound_to (unless_empty (uri_in prefix bound))
  where
    is_bound_to : Option (List ℕ) → Bool
    is_bound_to None = false
    is_bound_to (Some other) = bytes_eq other uri

abbrev pub is_bound : List Binding → List ℕ → Bool
is_bound bound prefix = is_some (unless_empty (uri_in prefix bound))

-- a name in the namespace of `xml`
abbrev pub is_xml : Name → Bool
is_xml name = bytes_eq name.uri xml_binding.uri

-- the prefix that a name asks for; `xml` and `xmlns` count as none
abbrev pub asked : Name → List ℕ
asked name = if is_fixed name.prefix then [] else name.prefix

-- with which prefix a name is written, and what is declared for it
pub record Choice : Type 0 where
  pub prefix : List ℕ
  pub declared : List Binding

abbrev pub as_it_stands : List ℕ → Choice
as_it_stands prefix = record { prefix = prefix; declared = [] }

abbrev pub declaring : List ℕ → List ℕ → Choice
declaring prefix uri = record { prefix = prefix; declared = record { prefix = prefix; uri = uri } ∷ [] }

-- an element: without a namespace it ends the default namespace, if one is in scope; with one it declares its prefix, or the default, unless that is bound to the namespace
abbrev pub element_choice : List Binding → Name → Choice
element_choice bound name =
    if is_xml name then as_it_stands (codes "xml") else
    if length name.uri == 0 then (if is_bound bound [] then declaring [] [] else as_it_stands []) else
    if binds bound (asked name) name.uri then as_it_stands (asked name) else declaring (asked name) name.uri

-- what is known of an element so far: its declarations, the latest first, and the prefixes with which its name and attributes are written
pub record Head : Type 0 where
  pub own : List Binding
  pub used : List (List ℕ)

abbrev pub has_prefix : List ℕ → List (List ℕ) → Bool
has_prefix prefix prefixes = list_any (λ other. bytes_eq other prefix) prefixes

abbrev pub declares : List ℕ → List Binding → Bool
declares prefix own = list_any (λ binding. bytes_eq binding.prefix prefix) own

-- an attribute: it keeps its prefix where that is bound to its namespace; else it declares it where nothing of this element has it; else it declares the first of `ns0`, `ns1` and so on that isn't bound
abbrev pub attribute_choice : List Binding → Head → Name → Choice
attribute_choice outer head name =
    if is_xml name then as_it_stands (codes "xml") else
    if length name.uri == 0 then as_it_stands [] else
    if length (asked name) == 0 then declaring (numbered (first_free (head.own ++ outer))) name.uri else
    if binds (head.own ++ outer) (asked name) name.uri then as_it_stands (asked name) else
    if has_prefix (asked name) head.used || declares (asked name) head.own then declaring (numbered (first_free (head.own ++ outer))) name.uri else
    declaring (asked name) name.uri

-- one more name is written so
abbrev pub with_choice : Choice → Head → Head
with_choice choice head = record { own = choice.declared ++ head.own; used = choice.prefix ∷ head.used }

-- an element whose name alone is written
abbrev pub first_head : List Binding → Name → Head
first_head outer name = with_choice (element_choice outer name) (record { own = []; used = [] })

-- after these attributes
abbrev pub head_after : List Binding → Head → List Attribute → Head
head_after outer head [] = head
head_after outer head (attribute ∷ attributes) = head_after outer (with_choice (attribute_choice outer head attribute.name) head) attributes

-- the lines of the attributes
abbrev pub attribute_lines : List Binding → Head → List Attribute → List Line
attribute_lines outer head [] = []
attribute_lines outer head (attribute ∷ attributes) =
    line.Attr (qualified (attribute_choice outer head attribute.name).prefix attribute.name.local) attribute.value
    ∷ attribute_lines outer (with_choice (attribute_choice outer head attribute.name) head) attributes

-- the name of an attribute line that declares a prefix, or the default namespace
abbrev pub declaration_name : List ℕ → List ℕ
declaration_name [] = codes "xmlns"
declaration_name (b ∷ prefix) = codes "xmlns" ++ 58 ∷ b ∷ prefix

abbrev pub declaration_line : Binding → Line
declaration_line binding = line.Attr (declaration_name binding.prefix) binding.uri

-- an element's name as it is written
abbrev pub element_name : List Binding → Name → List ℕ
element_name outer name = qualified (element_choice outer name).prefix name.local

-- an element's start, its declarations in the order in which they arose, and its attributes
abbrev pub element_lines : List Binding → Name → List Attribute → List Line
element_lines outer name attributes =
    line.Start (element_name outer name)
    ∷ map declaration_line (reverse (head_after outer (first_head outer name) attributes).own)
    ++ attribute_lines outer (first_head outer name) attributes
