-- The lines of an element's start, and what they are read as.
use Rattle.std.proofs.Common.{◌≡◌, ℕ, ◌+◌, List, [], ◌∷◌, ◌++◌, true, false, map, reverse, Some, None, codes, IsTrue, refl, sym, ap, ◌∙◌}
use Rattle.std.proofs.Common.{subst}
use Rattle.std.specs.List.{list_all, list_any}
use Rattle.std.specs.Str.{bytes_eq, is_utf8}
use Rattle.std.proofs.lemmas.Bool.{or_left}
use Rattle.std.proofs.lemmas.List.{reverse-reverse, append-nil, map-append}
use Rattle.std.proofs.lemmas.Slice.Eq.{bytes_eq-Decides}
use Rattle.name_grammar.specs.Names.{is_name, prefix_of, local_of}
use Rattle.result_events.specs.declared.event.Name.{Name}
use Rattle.result_events.specs.declared.event.Attribute.{Attribute}
use Rattle.result_events.specs.Tidy.{are_distinct}
use Rattle.xml_names.specs.declared.scopes.Binding.{Binding}
use Rattle.xml_names.specs.Bindings.{xml_binding, uri_in}
use Rattle.pyx_lines.specs.declared.line.Line.{Line}
use Rattle.pyx_lines.specs.declared.line.Line.TheVariants as line
use Rattle.pyx_events.specs.declared.pending_start.Attribute.{Attribute as Given}
use Rattle.pyx_events.specs.declared.pending_start.PendingStart.{PendingStart}
use Rattle.pyx_events.specs.Nodes.{uri_of, element_row, attribute_rows, declarations}
use Rattle.pyx_events.specs.Flaw.{is_unbound, attribute_unbound, repeats, element_flaw}
use Rattle.pyx_output.specs.Declaring.{first_head, head_after, element_choice, element_name, element_lines, attribute_lines, has_prefix}
use Rattle.read_back.specs.Contents.{Content, content_of, element_content, attribute_content}
use Rattle.read_back.specs.Legible.{is_legible_name}
use Rattle.pyx_lines.specs.ReadingBack.{AllWritable}
use Rattle.read_back.proofs.Names.{qualified_prefix, qualified_local, qualified_name, qualified_utf8}
use Rattle.read_back.proofs.Choices.{is_good, named, element_chosen, all_reverse}
use Rattle.read_back.proofs.Heads.{is_legible_attribute, line_of, written_attributes, attribute_lines_are, after_all, rows_read, none_unbound, none_declared, none_repeats, lines_writable}
use Rattle.read_back.proofs.Heads.{given_of, declaration_lines_are, good_writable, good_rows, good_unbound, good_declarations}

-- what an element declares
abbrev pub own_of : List Binding → Name → List Attribute → List Binding
own_of outer name attributes = (head_after outer (first_head outer name) attributes).own

-- its attribute lines, declarations first
abbrev pub given : List Binding → Name → List Attribute → List Given
given outer name attributes = map given_of (reverse (own_of outer name attributes)) ++ written_attributes outer (first_head outer name) attributes

pub record IsElement (outer : List Binding) (name : Name) (attributes : List Attribute) : Type 0 where
  pub lines : element_lines outer name attributes ≡ line.Start (element_name outer name) ∷ map line_of (given outer name attributes)
  pub flaw : (depth at : ℕ) → element_flaw (own_of outer name attributes ++ outer) depth (record { name = element_name outer name; line = at; attributes = given outer name attributes }) ≡ None
  pub contents : (depth inner : ℕ) → map content_of
      (element_row (own_of outer name attributes ++ outer) depth (element_name outer name) ∷ attribute_rows (own_of outer name attributes ++ outer) inner (given outer name attributes))
      ≡ element_content name ∷ map attribute_content attributes
  pub declared : reverse (declarations (given outer name attributes)) ≡ own_of outer name attributes
  pub writable : AllWritable (map line_of (given outer name attributes))
  pub is_name : IsTrue (is_name (element_name outer name))
  pub is_text : IsTrue (is_utf8 (element_name outer name))
  pub xml : uri_in (codes "xml") (own_of outer name attributes ++ outer) ≡ Some xml_binding.uri

pub all_writable-append : (first later : List Line) → AllWritable first → AllWritable later → AllWritable (first ++ later)
all_writable-append [] later one two = two
all_writable-append (line ∷ first) later one two = (one.0, all_writable-append first later one.1 two)

flaw_by : (bound : List Binding) (depth : ℕ) (start : PendingStart) → is_unbound bound (prefix_of start.name) ≡ false
    → list_any (attribute_unbound bound) start.attributes ≡ false → repeats (attribute_rows bound (depth + 1) start.attributes) ≡ false → element_flaw bound depth start ≡ None
flaw_by bound depth start one two three = rw (one, two, three) refl

pub is_element : (outer : List Binding) (name : Name) (attributes : List Attribute) → uri_in (codes "xml") outer ≡ Some xml_binding.uri → is_legible_name name ≡ true
    → list_all is_legible_attribute attributes ≡ true → are_distinct attributes ≡ true → IsElement outer name attributes
is_element outer name attributes xml legible all distinct =
    let is = named name legible in
    let choice = element_choice outer name in
    let head = first_head outer name in
    let chosen = element_chosen outer name xml is in
    let after = after_all outer head attributes chosen.sound all in
    let own = own_of outer name attributes in
    let bound = own ++ outer in
    let back = reverse own in
    let written = written_attributes outer head attributes in
    let good : list_all is_good back ≡ true = all_reverse is_good own after.sound.own in
    let here : has_prefix choice.prefix head.used ≡ true = or_left (bytes_eq choice.prefix choice.prefix) false ((bytes_eq-Decides choice.prefix choice.prefix).1 refl) in
    let same = after.stays choice.prefix here in
    let front : prefix_of (element_name outer name) ≡ choice.prefix = qualified_prefix choice.prefix name.local chosen.prefix is.local in
    let local : local_of (element_name outer name) ≡ name.local = qualified_local choice.prefix name.local chosen.prefix is.local in
    let there : is_unbound bound (prefix_of (element_name outer name)) ≡ false = rw (front, same) chosen.is_there in
    let uri : uri_of bound (prefix_of (element_name outer name)) ≡ name.uri = rw (front, same) chosen.uri_is in
    record {
      lines = ap (λ (lines : List Line). line.Start (element_name outer name) ∷ lines)
          (ap (λ (lines : List Line). lines ++ attribute_lines outer head attributes) (declaration_lines_are back)
          ∙ (ap (λ (lines : List Line). map line_of (map given_of back) ++ lines) (attribute_lines_are outer head attributes) ∙ sym (map-append line_of (map given_of back) written)));
      flaw = λ depth at. flaw_by bound depth (record { name = element_name outer name; line = at; attributes = map given_of back ++ written }) there
          (good_unbound bound back written good ∙ none_unbound bound written attributes after.read)
          (ap repeats (good_rows bound (depth + 1) back written good) ∙ none_repeats bound (depth + 1) written attributes after.read distinct);
      contents = λ depth inner.
          let rows = good_rows bound inner back written good in
          rw (uri, local, rows) (ap (λ (all : List Content). element_content name ∷ all) (rows_read bound inner written attributes after.read));
      declared = ap (λ (all : List Binding). reverse all)
          (good_declarations back written good ∙ (ap (λ (all : List Binding). back ++ all) (none_declared bound written attributes after.read) ∙ append-nil back)) ∙ reverse-reverse own;
      writable = subst AllWritable (sym (map-append line_of (map given_of back) written))
          (all_writable-append (map line_of (map given_of back)) (map line_of written) (good_writable back good) (lines_writable bound written attributes after.read));
      is_name = qualified_name choice.prefix name.local chosen.prefix is.local;
      is_text = qualified_utf8 choice.prefix name.local chosen.prefix is.local_text;
      xml = after.sound.xml;
    }
