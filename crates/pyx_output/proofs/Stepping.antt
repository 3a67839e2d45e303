-- What one event adds behind what is kept.
use Rattle.std.proofs.Common.{◌≡◌, ℕ, ◌==◌, ◌||◌, Bool, true, false, if◌then◌else◌, length, reverse, codes, List, [], ◌∷◌, ◌++◌, Option, Some, None, map, refl, sym, ap, ◌∙◌, append_assoc, arith}
use Rattle.std.proofs.lemmas.Grind.{flat_map-append}
use Rattle.std.proofs.lemmas.List.{append-nil, reverse-append, map-append}
use Rattle.result_events.specs.declared.event.ResultEvent.{ResultEvent}
use Rattle.result_events.specs.declared.event.Name.{Name}
use Rattle.result_events.specs.declared.event.Attribute.{Attribute}
use Rattle.xml_names.specs.declared.scopes.Binding.{Binding}
use Rattle.pyx_output.specs.Numbered.{numbered, first_free}
use Rattle.pyx_output.specs.Declaring.{Choice, Head, as_it_stands, declaring, with_choice, is_xml, binds, asked, has_prefix, declares}
use Rattle.pyx_output.specs.Declaring.{attribute_choice, head_after, first_head, element_choice, element_name, element_lines, attribute_lines}
use Rattle.pyx_output.specs.Declaring.{declaration_line, is_bound}
use Rattle.pyx_lines.specs.declared.line.Line.{Line}
use Rattle.pyx_lines.specs.declared.line.Line.TheVariants as line
use Rattle.pyx_lines.specs.Writing.{written}
use Rattle.result_events.specs.declared.event.ResultEvent.TheVariants as made_event
use Rattle.pyx_output.specs.Bytes.{Element, leading, lines_from, bytes_of_lines, in_force}
use Rattle.pyx_output.specs.Heading.{HasElement, Writing, plain, in_head, Stands, rest, held_in, Steps, chosen_line, inner_element, declared_after}
use Rattle.pyx_output.specs.declared.heading.Heading.{Heading}

-- where no attribute comes next, what is held comes first
pub settled : (state : Writing) (nest : List Element) (heading : Option Heading) (events : List ResultEvent) → Stands state nest heading → leading events ≡ []
    → rest state events ≡ held_in heading ++ bytes_of_lines (lines_from nest events)
settled (plain elements) nest None events stands none = ap (λ (elements : List Element). bytes_of_lines (lines_from elements events)) (sym stands)
settled (plain elements) nest (Some heading) events stands none = absurd stands
settled (in_head name outer head held) nest None events stands none = absurd stands
settled (in_head name outer head held) nest (Some heading) events stands none =
    let nested = stands.0 in
    let same = stands.2 in
    rw (none, nested, same) refl

-- an event that is no attribute and opens nothing
pub stepped : (state : Writing) (nest nest' : List Element) (heading : Option Heading) (event : ResultEvent) (out after : List ℕ) (lines : List Line) → Stands state nest heading
    → ((later : List ResultEvent) → leading (event ∷ later) ≡ []) → ((later : List ResultEvent) → lines_from nest (event ∷ later) ≡ lines ++ lines_from nest' later)
    → after ≡ (out ++ held_in heading) ++ bytes_of_lines lines → Steps state out event nest' None after
stepped state nest nest' heading event out after lines stands none split is = record {
  next = plain nest';
  stands = refl;
  adds = λ later.
      ap (λ (bytes : List ℕ). bytes ++ bytes_of_lines (lines_from nest' later)) is
      ∙ (append_assoc (out ++ held_in heading) (bytes_of_lines lines) (bytes_of_lines (lines_from nest' later))
      ∙ (append_assoc out (held_in heading) (bytes_of_lines lines ++ bytes_of_lines (lines_from nest' later))
      ∙ ap (λ (bytes : List ℕ). out ++ bytes) (ap (λ (bytes : List ℕ). held_in heading ++ bytes) (sym (flat_map-append written lines (lines_from nest' later)) ∙ ap bytes_of_lines (sym (split later)))
      ∙ sym (settled state nest heading (event ∷ later) stands (none later)))));
}

pub after_line : (out held start after : List ℕ) (given : Line) → start ≡ out ++ held → after ≡ start ++ written given → after ≡ (out ++ held) ++ bytes_of_lines (given ∷ [])
after_line out held start after given one two =
    two ∙ (ap (λ (front : List ℕ). front ++ written given) one ∙ ap (λ (bytes : List ℕ). (out ++ held) ++ bytes) (sym (append-nil (written given))))

pub after_none : (out held after : List ℕ) → after ≡ out ++ held → after ≡ (out ++ held) ++ bytes_of_lines []
after_none out held after is = is ∙ sym (append-nil (out ++ held))

-- the element's own declaration stands first among those in order
abbrev is_one : Choice → Type 0
is_one choice = reverse choice.declared ≡ choice.declared

attribute_by : (outer : List Binding) (head : Head) (name : Name) (xml bare plain_ kept used : Bool) → is_one (if xml then as_it_stands (codes "xml") else if bare then as_it_stands [] else if plain_ then declaring (numbered (first_free (head.own ++ outer))) name.uri else
    if kept then as_it_stands (asked name) else if used then declaring (numbered (first_free (head.own ++ outer))) name.uri else declaring (asked name) name.uri)
attribute_by outer head name true bare plain_ kept used = refl
attribute_by outer head name false true plain_ kept used = refl
attribute_by outer head name false false true kept used = refl
attribute_by outer head name false false false true used = refl
attribute_by outer head name false false false false true = refl
attribute_by outer head name false false false false false = refl

own_back : (outer : List Binding) (head : Head) (attributes : List Attribute) → reverse (head_after outer head attributes).own ≡ reverse head.own ++ declared_after outer head attributes
own_back outer head [] = sym (append-nil (reverse head.own))
own_back outer head (attribute ∷ attributes) =
    let choice = attribute_choice outer head attribute.name in
    let one : reverse choice.declared ≡ choice.declared =
    attribute_by outer head attribute.name (is_xml attribute.name) (length attribute.name.uri == 0) (length (asked attribute.name) == 0)
    (binds (head.own ++ outer) (asked attribute.name) attribute.name.uri) (has_prefix (asked attribute.name) head.used || declares (asked attribute.name) head.own) in
    own_back outer (with_choice choice head) attributes
    ∙ (ap (λ (front : List Binding). front ++ declared_after outer (with_choice choice head) attributes)
    (reverse-append choice.declared head.own ∙ ap (λ (made : List Binding). reverse head.own ++ made) one)
    ∙ append_assoc (reverse head.own) choice.declared (declared_after outer (with_choice choice head) attributes))

element_by : (outer : List Binding) (name : Name) (xml bare default kept : Bool)
    → is_one (if xml then as_it_stands (codes "xml") else if bare then (if default then declaring [] [] else as_it_stands []) else if kept then as_it_stands (asked name) else declaring (asked name) name.uri)
element_by outer name true bare default kept = refl
element_by outer name false true true kept = refl
element_by outer name false true false kept = refl
element_by outer name false false default true = refl
element_by outer name false false default false = refl

-- an element's declarations in order, its own first
first_back : (outer : List Binding) (name : Name) (attributes : List Attribute)
    → reverse (head_after outer (first_head outer name) attributes).own ≡ (element_choice outer name).declared ++ declared_after outer (first_head outer name) attributes
first_back outer name attributes =
    let choice = element_choice outer name in
    let one : reverse choice.declared ≡ choice.declared = element_by outer name (is_xml name) (length name.uri == 0) (is_bound outer []) (binds outer (asked name) name.uri) in
    own_back outer (first_head outer name) attributes
    ∙ ap (λ (front : List Binding). front ++ declared_after outer (first_head outer name) attributes) (ap (λ (own : List Binding). reverse own) (append-nil choice.declared) ∙ one)

-- the declaration lines of an element, its own first
declaration_lines : (outer : List Binding) (name : Name) (attributes : List Attribute)
    → map declaration_line (reverse (head_after outer (first_head outer name) attributes).own)
    ≡ map declaration_line (element_choice outer name).declared ++ map declaration_line (declared_after outer (first_head outer name) attributes)
declaration_lines outer name attributes =
    ap (λ (own : List Binding). map declaration_line own) (first_back outer name attributes)
    ∙ map-append declaration_line (element_choice outer name).declared (declared_after outer (first_head outer name) attributes)

-- the bytes of an element's lines and of those behind them
head_bytes : (outer : List Binding) (name : Name) (given : List Attribute) (later : List Line) → bytes_of_lines (element_lines outer name given ++ later)
    ≡ written (line.Start (element_name outer name)) ++ (bytes_of_lines (map declaration_line (element_choice outer name).declared)
    ++ (bytes_of_lines (map declaration_line (declared_after outer (first_head outer name) given)) ++ (bytes_of_lines (attribute_lines outer (first_head outer name) given) ++ bytes_of_lines later)))
head_bytes outer name given later =
    let made = map declaration_line (reverse (head_after outer (first_head outer name) given).own) in
    let own = map declaration_line (element_choice outer name).declared in
    let rest = map declaration_line (declared_after outer (first_head outer name) given) in
    let lines = attribute_lines outer (first_head outer name) given in
    ap (λ (bytes : List ℕ). written (line.Start (element_name outer name)) ++ bytes)
    (flat_map-append written (made ++ lines) later
    ∙ (ap (λ (bytes : List ℕ). bytes ++ bytes_of_lines later)
    (flat_map-append written made lines ∙ ap (λ (bytes : List ℕ). bytes ++ bytes_of_lines lines) (ap bytes_of_lines (declaration_lines outer name given) ∙ flat_map-append written own rest))
    ∙ simp append_assoc))

regroup : (out held start own rest : List ℕ) → ((out ++ held) ++ (start ++ own)) ++ rest ≡ out ++ (held ++ (start ++ (own ++ rest)))
regroup out held start own rest = simp append_assoc

pub started : (state : Writing) (nest nest' : List Element) (heading : Option Heading) (made : Heading) (name : Name) (out after : List ℕ) → Stands state nest heading
    → Stands (in_head (element_name (in_force nest) name) nest (first_head (in_force nest) name) []) nest' (Some made)
    → after ≡ (out ++ held_in heading) ++ (written (line.Start (element_name (in_force nest) name)) ++ bytes_of_lines (map declaration_line (element_choice (in_force nest) name).declared))
    → Steps state out (made_event.Start name) nest' (Some made) after
started state nest nest' heading made name out after stands begun is =
    let next = in_head (element_name (in_force nest) name) nest (first_head (in_force nest) name) [] in
    record {
      next = next;
      stands = begun;
      adds = λ later.
          let inner = lines_from (inner_element (element_name (in_force nest) name) nest (head_after (in_force nest) (first_head (in_force nest) name) (leading later)) ∷ nest) later in
          ap (λ (bytes : List ℕ). bytes ++ rest next later) is
          ∙ (regroup out (held_in heading) (written (line.Start (element_name (in_force nest) name)))
          (bytes_of_lines (map declaration_line (element_choice (in_force nest) name).declared)) (rest next later)
          ∙ ap (λ (bytes : List ℕ). out ++ bytes)
          (ap (λ (bytes : List ℕ). held_in heading ++ bytes) (sym (head_bytes (in_force nest) name (leading later) inner))
          ∙ sym (settled state nest heading (made_event.Start name ∷ later) stands refl)));
    }

-- an attribute's own declarations, and those of the attributes behind it
split_lines : (own rest : List Binding) → map declaration_line (own ++ rest) ≡ map declaration_line own ++ map declaration_line rest
split_lines own rest = map-append declaration_line own rest

regroup_attribute : (out own rest held line lines later : List ℕ) → (out ++ own) ++ (rest ++ ((held ++ line) ++ (lines ++ later))) ≡ out ++ ((own ++ rest) ++ (held ++ ((line ++ lines) ++ later)))
regroup_attribute out own rest held line lines later = simp append_assoc

pub attributed : (state : Writing) (nest nest' : List Element) (heading made : Heading) (name : Name) (value out after : List ℕ) → Stands state nest (Some heading)
    → ((own : List ℕ) (outer : List Element) (head : Head) (held : List ℕ) → Stands (in_head own outer head held) nest (Some heading)
    → Stands (in_head own outer (with_choice (attribute_choice (in_force outer) head name) head) (held ++ written (chosen_line outer head name value))) nest' (Some made))
    → ((own : List ℕ) (outer : List Element) (head : Head) (held : List ℕ) → Stands (in_head own outer head held) nest (Some heading)
    → after ≡ out ++ bytes_of_lines (map declaration_line (attribute_choice (in_force outer) head name).declared))
    → Steps state out (made_event.Attr name value) nest' (Some made) after
attributed (plain elements) nest nest' heading made name value out after stands grown is = absurd stands
attributed (in_head own outer head held) nest nest' heading made name value out after stands grown is =
    let choice = attribute_choice (in_force outer) head name in
    let more = with_choice choice head in
    let line = written (chosen_line outer head name value) in
    let next = in_head own outer more (held ++ line) in
    record {
      next = next;
      stands = grown own outer head held stands;
      adds = λ later.
          let behind = declared_after (in_force outer) more (leading later) in
          let first = bytes_of_lines (map declaration_line choice.declared) in
          let lines = bytes_of_lines (attribute_lines (in_force outer) more (leading later)) in
          let inner = bytes_of_lines (lines_from (inner_element own outer (head_after (in_force outer) more (leading later)) ∷ outer) later) in
          ap (λ (bytes : List ℕ). bytes ++ rest next later) (is own outer head held stands)
          ∙ (regroup_attribute out first (bytes_of_lines (map declaration_line behind)) held line lines inner
          ∙ ap (λ (bytes : List ℕ). out ++ (bytes ++ (held ++ ((line ++ lines) ++ inner))))
          (sym (ap bytes_of_lines (split_lines choice.declared behind) ∙ flat_map-append written (map declaration_line choice.declared) (map declaration_line behind))));
    }

-- a head that may grow has its element
pub has_element : (state : Writing) (nest : List Element) (heading : Option Heading) → Stands state nest heading → HasElement nest heading
has_element state nest None stands = tt
has_element (plain elements) nest (Some heading) stands = absurd stands
has_element (in_head name outer head held) nest (Some heading) stands = let nested = stands.0 in rw nested (omega arith)
