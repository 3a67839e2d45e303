-- An element's attribute lines, read in the bindings that it makes.
use Rattle.std.proofs.Common.{◌≡◌, ℕ, ◌==◌, ◌&&◌, ◌||◌, List, [], ◌∷◌, ◌++◌, Bool, true, false, not, length, map, Option, Some, None, is_some, codes}
use Rattle.std.proofs.Common.{refl, sym, ap, ◌∙◌}
use Rattle.std.specs.List.{list_all, list_any}
use Rattle.std.specs.Str.{bytes_eq, is_utf8}
use Rattle.std.proofs.lemmas.Bool.{and_parts, or_left, or_right, not-true}
use Rattle.std.proofs.lemmas.Bool.Decides.{same_from_decides}
use Rattle.std.proofs.lemmas.Slice.Eq.{bytes_eq-Decides}
use Rattle.name_grammar.specs.Names.{prefix_of, local_of}
use Rattle.doc_model.specs.declared.row.Row.{Row}
use Rattle.result_events.specs.declared.event.Name.{Name}
use Rattle.result_events.specs.declared.event.Attribute.{Attribute}
use Rattle.result_events.specs.Tidy.{has_name, are_distinct}
use Rattle.xml_names.specs.declared.scopes.Binding.{Binding}
use Rattle.xml_names.specs.Bindings.{is_fixed, uri_in}
use Rattle.pyx_lines.specs.declared.line.Line.{Line}
use Rattle.pyx_lines.specs.declared.line.Line.TheVariants as line
use Rattle.pyx_lines.specs.Writing.{CanBeWritten}
use Rattle.pyx_events.specs.declared.pending_start.Attribute.{Attribute as Given}
use Rattle.pyx_events.specs.Before.{declared_prefix, is_declaration}
use Rattle.pyx_events.specs.Nodes.{attribute_uri, attribute_rows, declarations}
use Rattle.pyx_events.specs.Flaw.{is_unbound, attribute_unbound, repeats}
use Rattle.pyx_events.specs.Counted.{same_expanded as same_rows}
use Rattle.pyx_output.specs.Declaring.{Head, with_choice, has_prefix, attribute_choice, head_after, attribute_lines, declaration_name, declaration_line, qualified}
use Rattle.read_back.specs.Contents.{Content, content_of, attribute_content}
use Rattle.read_back.specs.Legible.{is_legible_name, would_declare}
use Rattle.pyx_lines.specs.ReadingBack.{AllWritable}
use Rattle.read_back.proofs.Names.{is_prefix, qualified_prefix, qualified_local, qualified_name, qualified_utf8, not_declared, declares_prefix, declaration_is_name, declaration_utf8}
use Rattle.read_back.proofs.Choices.{IsSound, is_good, Reads, IsNamed, named, chosen}

-- an attribute that can be written as a line
abbrev pub is_legible_attribute : Attribute → Bool
is_legible_attribute attribute = is_legible_name attribute.name && (not (would_declare attribute.name) && is_utf8 attribute.value)

abbrev pub line_of : Given → Line
line_of given = line.Attr given.name given.value

-- the attribute lines after the declarations
abbrev pub written_attributes : List Binding → Head → List Attribute → List Given
written_attributes outer head [] = []
written_attributes outer head (attribute ∷ attributes) =
    record { name = qualified (attribute_choice outer head attribute.name).prefix attribute.name.local; value = attribute.value }
    ∷ written_attributes outer (with_choice (attribute_choice outer head attribute.name) head) attributes

pub attribute_lines_are : (outer : List Binding) (head : Head) (attributes : List Attribute) → attribute_lines outer head attributes ≡ map line_of (written_attributes outer head attributes)
attribute_lines_are outer head [] = refl
attribute_lines_are outer head (attribute ∷ attributes) =
    let choice = attribute_choice outer head attribute.name in
    ap (λ (lines : List Line). line.Attr (qualified choice.prefix attribute.name.local) attribute.value ∷ lines) (attribute_lines_are outer (with_choice choice head) attributes)

-- a line is read as the attribute in these bindings
pub record IsRead (bound : List Binding) (given : Given) (attribute : Attribute) : Type 0 where
  pub plain : is_declaration given.name ≡ false
  pub there : is_unbound bound (prefix_of given.name) ≡ false
  pub uri : attribute_uri bound (prefix_of given.name) ≡ attribute.name.uri
  pub local : local_of given.name ≡ attribute.name.local
  pub value : given.value ≡ attribute.value
  pub can : CanBeWritten (line_of given)

pub data AreRead (bound : List Binding) : List Given → List Attribute → Type 0 where
  all_read : AreRead bound [] []
  one_read : (given : Given) (attribute : Attribute) (lines : List Given) (attributes : List Attribute) → IsRead bound given attribute → AreRead bound lines attributes
      → AreRead bound (given ∷ lines) (attribute ∷ attributes)

-- after all attributes
pub record AfterAll (outer : List Binding) (head : Head) (attributes : List Attribute) : Type 0 where
  pub sound : IsSound outer (head_after outer head attributes)
  pub stays : (other : List ℕ) → has_prefix other head.used ≡ true → uri_in other ((head_after outer head attributes).own ++ outer) ≡ uri_in other (head.own ++ outer)
  pub read : AreRead ((head_after outer head attributes).own ++ outer) (written_attributes outer head attributes) attributes

reads_stay : (bound later : List Binding) (prefix uri : List ℕ) → uri_in prefix later ≡ uri_in prefix bound → Reads bound prefix uri → Reads later prefix uri
reads_stay bound later prefix uri same reads = record { uri_is = rw same reads.uri_is; is_there = rw same reads.is_there }

no_uri : (name : Name) → name.uri ≡ [] → not (would_declare name) ≡ true → bytes_eq name.local (codes "xmlns") ≡ false
no_uri name none plain = rw none at (not-true (would_declare name) plain)

-- an attribute's line is read in bindings in which its prefix is read
line_read : (bound : List Binding) (attribute : Attribute) (prefix : List ℕ) → IsNamed attribute.name → not (would_declare attribute.name) ≡ true → is_utf8 attribute.value ≡ true
    → is_prefix prefix ≡ true
    → bytes_eq prefix (codes "xmlns") ≡ false → (length prefix == 0 ≡ true → attribute.name.uri ≡ []) → Reads bound prefix attribute.name.uri
    → IsRead bound (record { name = qualified prefix attribute.name.local; value = attribute.value }) attribute
line_read bound attribute prefix is free text good plain bare reads =
    let local = attribute.name.local in
    let front = qualified_prefix prefix local good is.local in
    record {
      plain = not_declared prefix local good is.local plain (λ none. no_uri attribute.name (bare none) free);
      there = rw front reads.is_there;
      uri = rw front reads.uri_is;
      local = qualified_local prefix local good is.local;
      value = refl;
      can = (qualified_name prefix local good is.local, qualified_utf8 prefix local good is.local_text, text);
    }

pub after_all : (outer : List Binding) (head : Head) (attributes : List Attribute) → IsSound outer head → list_all is_legible_attribute attributes ≡ true → AfterAll outer head attributes
after_all outer head [] sound legible = record { sound = sound; stays = λ other is. refl; read = all_read }
after_all outer head (attribute ∷ attributes) sound legible =
    let parts = and_parts (is_legible_attribute attribute) (list_all is_legible_attribute attributes) legible in
    let first = and_parts (is_legible_name attribute.name) (not (would_declare attribute.name) && is_utf8 attribute.value) parts.0 in
    let second = and_parts (not (would_declare attribute.name)) (is_utf8 attribute.value) first.1 in
    let is = named attribute.name first.0 in
    let choice = attribute_choice outer head attribute.name in
    let one = chosen outer head attribute.name sound is in
    let rest = after_all outer (with_choice choice head) attributes one.sound parts.1 in
    let here : has_prefix choice.prefix (choice.prefix ∷ head.used) ≡ true =
    or_left (bytes_eq choice.prefix choice.prefix) (has_prefix choice.prefix head.used) ((bytes_eq-Decides choice.prefix choice.prefix).1 refl) in
    let later = (head_after outer (with_choice choice head) attributes).own ++ outer in
    let reads = reads_stay ((with_choice choice head).own ++ outer) later choice.prefix attribute.name.uri (rest.stays choice.prefix here) one.reads in
    record {
      sound = rest.sound;
      stays = λ other is. rest.stays other (or_right (bytes_eq choice.prefix other) (has_prefix other head.used) is) ∙ one.stays other is;
      read = one_read (record { name = qualified choice.prefix attribute.name.local; value = attribute.value }) attribute (written_attributes outer (with_choice choice head) attributes) attributes
          (line_read later attribute choice.prefix is second.0 second.1 one.prefix one.plain one.bare reads) rest.read;
    }

-- what lines that are read make
pub rows_read : (bound : List Binding) (depth : ℕ) (lines : List Given) (attributes : List Attribute) → AreRead bound lines attributes
    → map content_of (attribute_rows bound depth lines) ≡ map attribute_content attributes
rows_read bound depth _ _ all_read = refl
rows_read bound depth _ _ (one_read given attribute lines attributes is rest) =
    let plain = is.plain in let uri = is.uri in let local = is.local in let value = is.value in
    rw (plain, uri, local, value) (ap (λ (all : List Content). attribute_content attribute ∷ all) (rows_read bound depth lines attributes rest))

pub none_unbound : (bound : List Binding) (lines : List Given) (attributes : List Attribute) → AreRead bound lines attributes → list_any (attribute_unbound bound) lines ≡ false
none_unbound bound _ _ all_read = refl
none_unbound bound _ _ (one_read given attribute lines attributes is rest) =
    let plain = is.plain in let there = is.there in
    rw (plain, there) (none_unbound bound lines attributes rest)

nothing : (found : Option (List ℕ)) → is_some found ≡ false → found ≡ None
nothing None is = refl
nothing (Some prefix) is = absurd (cc)

pub none_declared : (bound : List Binding) (lines : List Given) (attributes : List Attribute) → AreRead bound lines attributes → declarations lines ≡ []
none_declared bound _ _ all_read = refl
none_declared bound _ _ (one_read given attribute lines attributes is rest) =
    let none = nothing (declared_prefix given.name) is.plain in
    rw none (none_declared bound lines attributes rest)

pub lines_writable : (bound : List Binding) (lines : List Given) (attributes : List Attribute) → AreRead bound lines attributes → AllWritable (map line_of lines)
lines_writable bound _ _ all_read = tt
lines_writable bound _ _ (one_read given attribute lines attributes is rest) = (is.can, lines_writable bound lines attributes rest)

-- rows with these contents repeat no name
abbrev same_contents : Content → Content → Bool
same_contents a b = bytes_eq a.local b.local && bytes_eq a.uri b.uri

abbrev repeat_in : List Content → Bool
repeat_in [] = false
repeat_in (content ∷ later) = list_any (same_contents content) later || repeat_in later

any_contents : (row : Row) (rows : List Row) → list_any (same_rows row) rows ≡ list_any (same_contents (content_of row)) (map content_of rows)
any_contents row [] = refl
any_contents row (other ∷ rows) = ap (λ (more : Bool). same_rows row other || more) (any_contents row rows)

repeats_contents : (rows : List Row) → repeats rows ≡ repeat_in (map content_of rows)
repeats_contents [] = refl
repeats_contents (row ∷ rows) = let first = any_contents row rows in let rest = repeats_contents rows in rw (first, rest) refl

eq_back : (a b : List ℕ) → bytes_eq a b ≡ bytes_eq b a
eq_back a b = same_from_decides (bytes_eq a b) (bytes_eq b a) (bytes_eq-Decides a b) ((λ is. sym ((bytes_eq-Decides b a).0 is)), (λ same. (bytes_eq-Decides b a).1 (sym same)))

any_names : (attribute : Attribute) (attributes : List Attribute) → list_any (same_contents (attribute_content attribute)) (map attribute_content attributes) ≡ has_name attribute.name attributes
any_names attribute [] = refl
any_names attribute (other ∷ attributes) =
    let local = eq_back attribute.name.local other.name.local in
    let uri = eq_back attribute.name.uri other.name.uri in
    let rest = any_names attribute attributes in
    rw (local, uri, rest) refl

distinct_contents : (attributes : List Attribute) → are_distinct attributes ≡ true → repeat_in (map attribute_content attributes) ≡ false
distinct_contents [] distinct = refl
distinct_contents (attribute ∷ attributes) distinct =
    let parts = and_parts (not (has_name attribute.name attributes)) (are_distinct attributes) distinct in
    let first = any_names attribute attributes ∙ not-true (has_name attribute.name attributes) parts.0 in
    rw first (distinct_contents attributes parts.1)

pub none_repeats : (bound : List Binding) (depth : ℕ) (lines : List Given) (attributes : List Attribute) → AreRead bound lines attributes → are_distinct attributes ≡ true
    → repeats (attribute_rows bound depth lines) ≡ false
none_repeats bound depth lines attributes read distinct =
    repeats_contents (attribute_rows bound depth lines) ∙ (ap repeat_in (rows_read bound depth lines attributes read) ∙ distinct_contents attributes distinct)

-- the declarations as attribute lines
abbrev pub given_of : Binding → Given
given_of binding = record { name = declaration_name binding.prefix; value = binding.uri }

pub declaration_lines_are : (own : List Binding) → map declaration_line own ≡ map line_of (map given_of own)
declaration_lines_are [] = refl
declaration_lines_are (binding ∷ own) = ap (λ (lines : List Line). declaration_line binding ∷ lines) (declaration_lines_are own)

record IsDeclaring (binding : Binding) : Type 0 where
  prefix : is_prefix binding.prefix ≡ true
  text : is_utf8 binding.uri ≡ true
  free : is_fixed binding.prefix ≡ false

declaring_of : (binding : Binding) → is_good binding ≡ true → IsDeclaring binding
declaring_of binding good =
    let parts = and_parts (is_prefix binding.prefix) (is_utf8 binding.uri && not (is_fixed binding.prefix)) good in
    let rest = and_parts (is_utf8 binding.uri) (not (is_fixed binding.prefix)) parts.1 in
    record { prefix = parts.0; text = rest.0; free = not-true (is_fixed binding.prefix) rest.1 }

pub good_writable : (own : List Binding) → list_all is_good own ≡ true → AllWritable (map line_of (map given_of own))
good_writable [] good = tt
good_writable (binding ∷ own) good =
    let parts = and_parts (is_good binding) (list_all is_good own) good in
    let is = declaring_of binding parts.0 in
    ((declaration_is_name binding.prefix is.prefix, declaration_utf8 binding.prefix is.prefix, is.text), good_writable own parts.1)

declares : (binding : Binding) → is_good binding ≡ true → declared_prefix (declaration_name binding.prefix) ≡ Some binding.prefix
declares binding good = declares_prefix binding.prefix (declaring_of binding good).prefix

pub good_rows : (bound : List Binding) (depth : ℕ) (own : List Binding) (lines : List Given) → list_all is_good own ≡ true
    → attribute_rows bound depth (map given_of own ++ lines) ≡ attribute_rows bound depth lines
good_rows bound depth [] lines good = refl
good_rows bound depth (binding ∷ own) lines good =
    let parts = and_parts (is_good binding) (list_all is_good own) good in
    let is = declares binding parts.0 in
    rw is (good_rows bound depth own lines parts.1)

pub good_unbound : (bound own : List Binding) (lines : List Given) → list_all is_good own ≡ true
    → list_any (attribute_unbound bound) (map given_of own ++ lines) ≡ list_any (attribute_unbound bound) lines
good_unbound bound [] lines good = refl
good_unbound bound (binding ∷ own) lines good =
    let parts = and_parts (is_good binding) (list_all is_good own) good in
    let is = declares binding parts.0 in
    rw is (good_unbound bound own lines parts.1)

pub good_declarations : (own : List Binding) (lines : List Given) → list_all is_good own ≡ true → declarations (map given_of own ++ lines) ≡ own ++ declarations lines
good_declarations [] lines good = refl
good_declarations (binding ∷ own) lines good =
    let parts = and_parts (is_good binding) (list_all is_good own) good in
    let is = declares binding parts.0 in
    let free = (declaring_of binding parts.0).free in
    rw (is, free) (ap (λ (all : List Binding). binding ∷ all) (good_declarations own lines parts.1))
