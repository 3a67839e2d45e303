-- What is still to be written behind an element's head that may grow.
use Rattle.std.specs.Prelude.{◌≡◌, ℕ, List, [], ◌∷◌, ◌++◌, ◌<◌, IsTrue, length, map, Option, Some, None}
use Rattle.result_events.specs.declared.event.Name.{Name}
use Rattle.result_events.specs.declared.event.Attribute.{Attribute}
use Rattle.result_events.specs.declared.event.ResultEvent.{ResultEvent}
use Rattle.pyx_lines.specs.declared.line.Line.{Line}
use Rattle.pyx_lines.specs.declared.line.Line.TheVariants as line
use Rattle.xml_names.specs.declared.scopes.Binding.{Binding}
use Rattle.pyx_output.specs.Bytes.{Element, in_force, leading, lines_from, bytes_of_lines}
use Rattle.pyx_output.specs.Declaring.{Head, with_choice, attribute_choice, attribute_lines, declaration_line, declares, has_prefix, head_after, qualified}
use Rattle.pyx_output.specs.Nesting.{with_declared}
use Rattle.pyx_output.specs.Used.{IsUsed}
use Rattle.pyx_output.specs.declared.heading.Heading.{Heading}

-- what these attributes make an element declare, in order
abbrev pub declared_after : List Binding → Head → List Attribute → List Binding
declared_after outer head [] = []
declared_after outer head (attribute ∷ attributes) =
    (attribute_choice outer head attribute.name).declared ++ declared_after outer (with_choice (attribute_choice outer head attribute.name) head) attributes

-- declarations in the innermost element, the first first
abbrev pub with_all : List Binding → List Element → List Element
with_all [] elements = elements
with_all (binding ∷ bindings) elements = with_all bindings (with_declared binding elements)

-- what a writer stands at: between elements' heads, or in a head whose attribute lines are held
pub data Writing : Type 0 where
  plain : List Element → Writing
  in_head : List ℕ → List Element → Head → List ℕ → Writing

abbrev pub inner_element : List ℕ → List Element → Head → Element
inner_element name outer head = record { name = name; bound = head.own ++ in_force outer }

-- the bytes that these events add
abbrev pub rest : Writing → List ResultEvent → List ℕ
rest (plain elements) events = bytes_of_lines (lines_from elements events)
rest (in_head name outer head held) events =
    bytes_of_lines (map declaration_line (declared_after (in_force outer) head (leading events)))
    ++ (held ++ (bytes_of_lines (attribute_lines (in_force outer) head (leading events))
    ++ bytes_of_lines (lines_from (inner_element name outer (head_after (in_force outer) head (leading events)) ∷ outer) events)))

-- what an element declares it also uses
abbrev pub UsesOwn : Head → Type 0
UsesOwn head = (prefix : List ℕ) → IsTrue (declares prefix head.own) → IsTrue (has_prefix prefix head.used)

-- what is kept stands for it
abbrev pub Stands : Writing → List Element → Option Heading → Type 0
Stands (plain elements) nest None = nest ≡ elements
Stands (plain elements) nest (Some heading) = ⊥
Stands (in_head name outer head held) nest None = ⊥
Stands (in_head name outer head held) nest (Some heading) = (nest ≡ inner_element name outer head ∷ outer) × IsUsed heading.used head.used × (heading.held.items ≡ held) × UsesOwn head

-- an attribute's line as it is chosen to be written
abbrev pub chosen_line : List Element → Head → Name → List ℕ → Line
chosen_line outer head name value = line.Attr (qualified (attribute_choice (in_force outer) head name).prefix name.local) value

-- after the event
pub record Steps (state : Writing) (before : List ℕ) (event : ResultEvent) (nest : List Element) (heading : Option Heading) (after : List ℕ) : Type 0 where
  pub next : Writing
  pub stands : Stands next nest heading
  pub adds : (later : List ResultEvent) → after ++ rest next later ≡ before ++ rest state (event ∷ later)

abbrev pub held_in : Option Heading → List ℕ
held_in None = []
held_in (Some heading) = heading.held.items

-- a head that may grow has its element
abbrev pub HasElement : List Element → Option Heading → Type 0
HasElement nest None = Unit {0}
HasElement nest (Some heading) = 0 < length nest
