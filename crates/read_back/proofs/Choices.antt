-- An element's declarations bind the prefixes that it and its attributes are written with.
use Rattle.std.proofs.Common.{◌≡◌, ℕ, zero, suc, ◌+◌, nat_le, nat_lt, ◌==◌, ◌&&◌, ◌||◌, List, [], ◌∷◌, ◌++◌, Bool, true, false, not, if◌then◌else◌, length, reverse, Option, Some, None, unwrap_or}
use Rattle.std.proofs.Common.{is_some, codes, refl, ap, ◌∙◌, subst, arith}
use Rattle.std.specs.List.{list_all}
use Rattle.std.specs.Str.{bytes_eq, is_utf8}
use Rattle.std.proofs.lemmas.Bool.{and_parts, and_from, or_parts, or_right, and_right, false_from_ne_true, not_from_false}
use Rattle.std.proofs.lemmas.Bool.Decides.{nat_tests}
use Rattle.std.proofs.lemmas.Slice.Eq.{bytes_eq-Decides}
use Rattle.name_grammar.specs.Names.{is_ncname}
use Rattle.result_events.specs.declared.event.Name.{Name}
use Rattle.xml_names.specs.declared.scopes.Binding.{Binding}
use Rattle.xml_names.specs.Bindings.{xml_binding, is_fixed, uri_in, unless_empty}
use Rattle.pyx_events.specs.Nodes.{uri_of, attribute_uri}
use Rattle.pyx_events.specs.Flaw.{is_unbound}
use Rattle.pyx_output.specs.Numbered.{numbered, first_free}
use Rattle.pyx_output.specs.Declaring.{Choice, Head, as_it_stands, declaring, with_choice, is_xml, is_bound, binds, asked, has_prefix, declares, element_choice, attribute_choice}
use Rattle.read_back.specs.Legible.{is_part, is_legible_name}
use Rattle.read_back.proofs.Names.{is_prefix, ascii_utf8}
use Rattle.std.proofs.lemmas.List.Folds.{list_all-append}
use Rattle.std.proofs.lemmas.List.{reverse-append}
use Rattle.name_grammar.specs.Names.{is_name_byte}
use Rattle.pyx_output.specs.Numbered.{next_digits, digits_back}
use Rattle.pyx_output.proofs.Free.{free}

-- a declaration that can be written and that has an effect
abbrev pub is_good : Binding → Bool
is_good binding = is_prefix binding.prefix && (is_utf8 binding.uri && not (is_fixed binding.prefix))

-- the default, or a prefix that is bound
abbrev pub is_known : List Binding → List ℕ → Bool
is_known bound prefix = length prefix == 0 || is_bound bound prefix

-- an element's head in which all is bound that is used
pub record IsSound (outer : List Binding) (head : Head) : Type 0 where
  pub xml : uri_in (codes "xml") (head.own ++ outer) ≡ Some xml_binding.uri
  pub own : list_all is_good head.own ≡ true
  pub used : list_all (is_known (head.own ++ outer)) head.used ≡ true

-- an attribute with this prefix is read with this URI
pub record Reads (bound : List Binding) (prefix uri : List ℕ) : Type 0 where
  pub uri_is : attribute_uri bound prefix ≡ uri
  pub is_there : is_unbound bound prefix ≡ false

-- what an attribute's choice does to the head
pub record Chosen (outer : List Binding) (head : Head) (choice : Choice) (uri : List ℕ) : Type 0 where
  pub sound : IsSound outer (with_choice choice head)
  pub reads : Reads ((with_choice choice head).own ++ outer) choice.prefix uri
  pub prefix : is_prefix choice.prefix ≡ true
  pub plain : bytes_eq choice.prefix (codes "xmlns") ≡ false
  pub bare : length choice.prefix == 0 ≡ true → uri ≡ []
  pub stays : (other : List ℕ) → has_prefix other head.used ≡ true → uri_in other ((with_choice choice head).own ++ outer) ≡ uri_in other (head.own ++ outer)

itself : (bytes : List ℕ) → bytes_eq bytes bytes ≡ true
itself bytes = (bytes_eq-Decides bytes bytes).1 refl

kept : (outer : List Binding) (head : Head) (prefix uri : List ℕ) → IsSound outer head → is_known (head.own ++ outer) prefix ≡ true → Reads (head.own ++ outer) prefix uri → is_prefix prefix ≡ true
    → bytes_eq prefix (codes "xmlns") ≡ false → (length prefix == 0 ≡ true → uri ≡ []) → Chosen outer head (as_it_stands prefix) uri
kept outer head prefix uri sound known reads good plain bare = record {
  sound = record { xml = sound.xml; own = sound.own; used = and_from _ _ known sound.used };
  reads = reads;
  prefix = good;
  plain = plain;
  bare = bare;
  stays = λ other is. refl;
}

nonempty_is : (uri : List ℕ) → length uri == 0 ≡ false → unless_empty (Some uri) ≡ Some uri
nonempty_is [] some = absurd (cc)
nonempty_is (b ∷ uri) some = refl

-- one more binding of a prefix that isn't used leaves those that are
unused : (prefix other : List ℕ) (used : List (List ℕ)) → has_prefix prefix used ≡ false → has_prefix other used ≡ true → bytes_eq prefix other ≡ false
unused prefix other used none some = false_from_ne_true (bytes_eq prefix other) (λ is.
    let same = (bytes_eq-Decides prefix other).0 is in
    let there : has_prefix other used ≡ false = rw same at none in cc)

known_by : (binding : Binding) (bound : List Binding) (other : List ℕ) (is : Bool) → length binding.uri == 0 ≡ false → bytes_eq binding.prefix other ≡ is → is_known bound other ≡ true
    → is_known (binding ∷ bound) other ≡ true
known_by binding bound other true some same known = rw (same, nonempty_is binding.uri some) (or_right (length other == 0) true refl)
known_by binding bound other false some same known = rw same known

all_known : (binding : Binding) (bound : List Binding) (used : List (List ℕ)) → length binding.uri == 0 ≡ false → list_all (is_known bound) used ≡ true
    → list_all (is_known (binding ∷ bound)) used ≡ true
all_known binding bound [] some known = refl
all_known binding bound (other ∷ used) some known =
    let parts = and_parts (is_known bound other) (list_all (is_known bound) used) known in
    and_from _ _ (known_by binding bound other (bytes_eq binding.prefix other) some refl parts.0) (all_known binding bound used some parts.1)

not_xml : (prefix : List ℕ) → is_fixed prefix ≡ false → bytes_eq prefix (codes "xml") ≡ false
not_xml prefix other = (or_parts (bytes_eq prefix (codes "xml")) (bytes_eq prefix (codes "xmlns")) other).0

not_xmlns : (prefix : List ℕ) → is_fixed prefix ≡ false → bytes_eq prefix (codes "xmlns") ≡ false
not_xmlns prefix other = (or_parts (bytes_eq prefix (codes "xml")) (bytes_eq prefix (codes "xmlns")) other).1

-- the latest binding counts
declared_reads : (prefix uri : List ℕ) (bound : List Binding) → length prefix == 0 ≡ false → length uri == 0 ≡ false → Reads (record { prefix = prefix; uri = uri } ∷ bound) prefix uri
declared_reads prefix uri bound named some = record {
  uri_is = rw (named, itself prefix, nonempty_is uri some) refl;
  is_there = rw (named, itself prefix, nonempty_is uri some) refl;
}

declared : (outer : List Binding) (head : Head) (prefix uri : List ℕ) → IsSound outer head → length prefix == 0 ≡ false → is_part prefix ≡ true → is_fixed prefix ≡ false → is_utf8 uri ≡ true
    → length uri == 0 ≡ false
    → has_prefix prefix head.used ≡ false → Chosen outer head (declaring prefix uri) uri
declared outer head prefix uri sound named part free text some fresh =
    let binding : Binding = record { prefix = prefix; uri = uri } in
    let bound = head.own ++ outer in
    let good : is_prefix prefix ≡ true = or_right (length prefix == 0) (is_part prefix) part in
    let here : is_known (binding ∷ bound) prefix ≡ true = rw (itself prefix, nonempty_is uri some) (or_right (length prefix == 0) true refl) in
    record {
      sound = record {
        xml = rw (not_xml prefix free) sound.xml;
        own = and_from (is_good binding) _ (and_from _ _ good (and_from _ _ text (not_from_false _ free))) sound.own;
        used = and_from _ _ here (all_known binding bound head.used some sound.used);
      };
      reads = declared_reads prefix uri bound named some;
      prefix = good;
      plain = not_xmlns prefix free;
      bare = λ none. absurd (cc);
      stays = λ other is. rw (unused prefix other head.used fresh is) refl;
    }

-- the numbered prefixes are NCNames
abbrev is_digit : ℕ → Bool
is_digit b = nat_le 48 b && nat_le b 57

next_by : (d : ℕ) (digits : List ℕ) (last : Bool) → (d == 57) ≡ last → is_digit d ≡ true → list_all is_digit digits ≡ true → list_all is_digit (next_digits digits) ≡ true
    → list_all is_digit (if last then 48 ∷ next_digits digits else (d + 1) ∷ digits) ≡ true
next_by d digits true last is all next = next
next_by d digits false last is all next = and_from (is_digit (d + 1)) _ (grind (arith, nat_tests, last, is)) all

next_all : (digits : List ℕ) → list_all is_digit digits ≡ true → list_all is_digit (next_digits digits) ≡ true
next_all [] all = refl
next_all (d ∷ digits) all =
    let parts = and_parts (is_digit d) (list_all is_digit digits) all in
    next_by d digits (d == 57) refl parts.0 parts.1 (next_all digits parts.1)

all_digits : (k : ℕ) → list_all is_digit (digits_back k) ≡ true
all_digits zero = refl
all_digits (suc k) = next_all (digits_back k) (all_digits k)

digit_names : (digits : List ℕ) → list_all is_digit digits ≡ true → list_all is_name_byte digits ≡ true
digit_names [] all = refl
digit_names (d ∷ digits) all =
    let parts = and_parts (is_digit d) (list_all is_digit digits) all in
    and_from (is_name_byte d) _ (grind (arith, nat_tests, parts.0)) (digit_names digits parts.1)

digit_ascii : (digits : List ℕ) → list_all is_digit digits ≡ true → list_all (λ b. nat_lt b 128) digits ≡ true
digit_ascii [] all = refl
digit_ascii (d ∷ digits) all =
    let parts = and_parts (is_digit d) (list_all is_digit digits) all in
    and_from (nat_lt d 128) _ (grind (arith, nat_tests, parts.0)) (digit_ascii digits parts.1)

pub all_reverse : {X : Type 0} (p : X → Bool) (xs : List X) → list_all p xs ≡ true → list_all p (reverse xs) ≡ true
all_reverse p [] all = refl
all_reverse p (x ∷ xs) all =
    let parts = and_parts (p x) (list_all p xs) all in
    ap (list_all p) (reverse-append (x ∷ []) xs) ∙ (list_all-append p (reverse xs) (x ∷ []) ∙ and_from _ _ (all_reverse p xs parts.1) (and_from (p x) true parts.0 refl))

pub some_bytes : (b : ℕ) (bytes : List ℕ) → length (b ∷ bytes) == 0 ≡ false
some_bytes b bytes = grind (arith, nat_tests)

numbered_part : (k : ℕ) → is_part (numbered k) ≡ true
numbered_part k =
    let digits : list_all is_digit (reverse (digits_back k)) ≡ true = all_reverse is_digit (digits_back k) (all_digits k) in
    and_from (is_ncname (numbered k)) (is_utf8 (numbered k)) (digit_names (reverse (digits_back k)) digits) (ascii_utf8 (numbered k) (digit_ascii (reverse (digits_back k)) digits))

-- a prefix that is bound to nothing isn't used
fresh_by : (bound : List Binding) (prefix other : List ℕ) (is : Bool) → bytes_eq other prefix ≡ is → length prefix == 0 ≡ false → is_bound bound prefix ≡ false → is_known bound other ≡ true
    → is ≡ false
fresh_by bound prefix other false is named free known = refl
fresh_by bound prefix other true is named free known =
    let same = (bytes_eq-Decides other prefix).0 is in
    let there : is_known bound prefix ≡ true = rw same at known in
    let not_there : is_known bound prefix ≡ false = rw (named, free) refl in
    absurd (cc)

fresh : (bound : List Binding) (prefix : List ℕ) (used : List (List ℕ)) → length prefix == 0 ≡ false → is_bound bound prefix ≡ false → list_all (is_known bound) used ≡ true
    → has_prefix prefix used ≡ false
fresh bound prefix [] named free known = refl
fresh bound prefix (other ∷ used) named free known =
    let parts = and_parts (is_known bound other) (list_all (is_known bound) used) known in
    let here = fresh_by bound prefix other (bytes_eq other prefix) refl named free parts.0 in
    rw here (fresh bound prefix used named free parts.1)

-- the first of the numbered prefixes that is free
renamed : (outer : List Binding) (head : Head) (uri : List ℕ) → IsSound outer head → is_utf8 uri ≡ true → length uri == 0 ≡ false
    → Chosen outer head (declaring (numbered (first_free (head.own ++ outer))) uri) uri
renamed outer head uri sound text some =
    let bound = head.own ++ outer in
    let k = first_free bound in
    let unbound = free (length bound) 0 bound (omega arith) in
    let some_number = some_bytes 110 (115 ∷ reverse (digits_back k)) in
    declared outer head (numbered k) uri sound some_number (numbered_part k) refl text some (fresh bound (numbered k) head.used some_number unbound sound.used)

-- a name's parts
pub record IsNamed (name : Name) : Type 0 where
  pub prefix : is_prefix name.prefix ≡ true
  pub local : is_ncname name.local ≡ true
  pub local_text : is_utf8 name.local ≡ true
  pub uri_text : is_utf8 name.uri ≡ true

pub named : (name : Name) → is_legible_name name ≡ true → IsNamed name
named name is =
    let parts = and_parts (is_prefix name.prefix) (is_part name.local && is_utf8 name.uri) is in
    let rest = and_parts (is_part name.local) (is_utf8 name.uri) parts.1 in
    let local = and_parts (is_ncname name.local) (is_utf8 name.local) rest.0 in
    record { prefix = parts.0; local = local.0; local_text = local.1; uri_text = rest.1 }

asked_by : (name : Name) (is : Bool) → is_fixed name.prefix ≡ is → is_prefix name.prefix ≡ true
    → (is_prefix (if is then [] else name.prefix) ≡ true) × (is_fixed (if is then [] else name.prefix) ≡ false)
asked_by name true is good = (refl, refl)
asked_by name false is good = (good, is)

asked_is : (name : Name) → is_prefix name.prefix ≡ true → (is_prefix (asked name) ≡ true) × (is_fixed (asked name) ≡ false)
asked_is name good = asked_by name (is_fixed name.prefix) refl good

bound_by : (bound : List Binding) (prefix uri : List ℕ) (found : Option (List ℕ)) → unless_empty (uri_in prefix bound) ≡ found → binds bound prefix uri ≡ true → found ≡ Some uri
bound_by bound prefix uri None at is = let is = rw at at is in absurd (cc)
bound_by bound prefix uri (Some other) at is = let is = rw at at is in ap (λ (bytes : List ℕ). Some bytes) ((bytes_eq-Decides other uri).0 is)

binds_is : (bound : List Binding) (prefix uri : List ℕ) → binds bound prefix uri ≡ true → unless_empty (uri_in prefix bound) ≡ Some uri
binds_is bound prefix uri is = bound_by bound prefix uri (unless_empty (uri_in prefix bound)) refl is

bound_reads : (bound : List Binding) (prefix uri : List ℕ) → length prefix == 0 ≡ false → unless_empty (uri_in prefix bound) ≡ Some uri → Reads bound prefix uri
bound_reads bound prefix uri named found = record { uri_is = rw (named, found) refl; is_there = rw (named, found) refl }

xml_kept : (outer : List Binding) (head : Head) (name : Name) → IsSound outer head → is_xml name ≡ true → Chosen outer head (as_it_stands (codes "xml")) name.uri
xml_kept outer head name sound is =
    let uri = (bytes_eq-Decides name.uri xml_binding.uri).0 is in
    let there = sound.xml in
    let found : unless_empty (uri_in (codes "xml") (head.own ++ outer)) ≡ Some name.uri = rw (there, uri) refl in
    kept outer head (codes "xml") name.uri sound (rw found refl) (bound_reads (head.own ++ outer) (codes "xml") name.uri refl found) (ascii_part) refl (λ none. absurd (cc))
  where
    ascii_part : is_prefix (codes "xml") ≡ true
    ascii_part = and_from (is_ncname (codes "xml")) (is_utf8 (codes "xml")) refl (ascii_utf8 (codes "xml") refl)

bare_kept : (outer : List Binding) (head : Head) (uri : List ℕ) → IsSound outer head → length uri == 0 ≡ true → Chosen outer head (as_it_stands []) uri
bare_kept outer head [] sound none = kept outer head [] [] sound refl (record { uri_is = refl; is_there = refl }) refl refl (λ is. refl)
bare_kept outer head (b ∷ uri) sound none = let some = some_bytes b uri in absurd (cc)

part_of : (prefix : List ℕ) → length prefix == 0 ≡ false → is_prefix prefix ≡ true → is_part prefix ≡ true
part_of [] some good = absurd (cc)
part_of (b ∷ prefix) some good = rw some at good

asked_kept : (outer : List Binding) (head : Head) (prefix uri : List ℕ) → IsSound outer head → length prefix == 0 ≡ false → is_prefix prefix ≡ true → is_fixed prefix ≡ false
    → binds (head.own ++ outer) prefix uri ≡ true
    → Chosen outer head (as_it_stands prefix) uri
asked_kept outer head prefix uri sound named good free is =
    let found = binds_is (head.own ++ outer) prefix uri is in
    kept outer head prefix uri sound (rw found (or_right (length prefix == 0) true refl)) (bound_reads (head.own ++ outer) prefix uri named found) good (not_xmlns prefix free) (λ none. absurd (cc))

-- an attribute's choice, by its tests
chosen_by : (outer : List Binding) (head : Head) (name : Name) (xml bare plain kept used : Bool) → IsSound outer head → IsNamed name
    → is_xml name ≡ xml → length name.uri == 0 ≡ bare → length (asked name) == 0 ≡ plain → binds (head.own ++ outer) (asked name) name.uri ≡ kept
    → has_prefix (asked name) head.used || declares (asked name) head.own ≡ used
    → Chosen outer head (if xml then as_it_stands (codes "xml") else if bare then as_it_stands [] else if plain then declaring (numbered (first_free (head.own ++ outer))) name.uri else
    if kept then as_it_stands (asked name) else if used then declaring (numbered (first_free (head.own ++ outer))) name.uri else declaring (asked name) name.uri) name.uri
chosen_by outer head name true bare plain kept used sound is e1 e2 e3 e4 e5 = xml_kept outer head name sound e1
chosen_by outer head name false true plain kept used sound is e1 e2 e3 e4 e5 = bare_kept outer head name.uri sound e2
chosen_by outer head name false false true kept used sound is e1 e2 e3 e4 e5 = renamed outer head name.uri sound is.uri_text e2
chosen_by outer head name false false false true used sound is e1 e2 e3 e4 e5 =
    let wish = asked_is name is.prefix in
    asked_kept outer head (asked name) name.uri sound e3 wish.0 wish.1 e4
chosen_by outer head name false false false false true sound is e1 e2 e3 e4 e5 = renamed outer head name.uri sound is.uri_text e2
chosen_by outer head name false false false false false sound is e1 e2 e3 e4 e5 =
    let wish = asked_is name is.prefix in
    declared outer head (asked name) name.uri sound e3 (part_of (asked name) e3 wish.0) wish.1 is.uri_text e2 (or_parts _ _ e5).0

pub chosen : (outer : List Binding) (head : Head) (name : Name) → IsSound outer head → IsNamed name → Chosen outer head (attribute_choice outer head name) name.uri
chosen outer head name sound is = chosen_by outer head name (is_xml name) (length name.uri == 0) (length (asked name) == 0) (binds (head.own ++ outer) (asked name) name.uri)
    (has_prefix (asked name) head.used || declares (asked name) head.own) sound is refl refl refl refl refl

-- an element's choice

pub record ElementChosen (outer : List Binding) (choice : Choice) (uri : List ℕ) : Type 0 where
  pub sound : IsSound outer (with_choice choice (record { own = []; used = [] }))
  pub uri_is : uri_of ((with_choice choice (record { own = []; used = [] })).own ++ outer) choice.prefix ≡ uri
  pub is_there : is_unbound ((with_choice choice (record { own = []; used = [] })).own ++ outer) choice.prefix ≡ false
  pub prefix : is_prefix choice.prefix ≡ true

element_kept : (outer : List Binding) (prefix uri : List ℕ) → uri_in (codes "xml") outer ≡ Some xml_binding.uri → is_prefix prefix ≡ true → unless_empty (uri_in prefix outer) ≡ Some uri
    → ElementChosen outer (as_it_stands prefix) uri
element_kept outer prefix uri xml good found = record {
  sound = record { xml = xml; own = refl; used = and_from (is_known outer prefix) true (rw found (or_right (length prefix == 0) true refl)) refl };
  uri_is = rw found refl;
  is_there = rw found (and_right (not (length prefix == 0)) false refl);
  prefix = good;
}

element_declared : (outer : List Binding) (prefix uri : List ℕ) → uri_in (codes "xml") outer ≡ Some xml_binding.uri → is_prefix prefix ≡ true → is_fixed prefix ≡ false → is_utf8 uri ≡ true
    → length uri == 0 ≡ false → ElementChosen outer (declaring prefix uri) uri
element_declared outer prefix uri xml good free text some = record {
  sound = record {
    xml = rw (not_xml prefix free) xml;
    own = and_from (is_good (record { prefix = prefix; uri = uri })) true (and_from _ _ good (and_from _ _ text (not_from_false _ free))) refl;
    used = and_from (is_known (record { prefix = prefix; uri = uri } ∷ outer) prefix) true (rw (itself prefix, nonempty_is uri some) (or_right (length prefix == 0) true refl)) refl;
  };
  uri_is = rw (itself prefix, nonempty_is uri some) refl;
  is_there = rw (itself prefix, nonempty_is uri some) (and_right (not (length prefix == 0)) false refl);
  prefix = good;
}

element_ended : (outer : List Binding) → uri_in (codes "xml") outer ≡ Some xml_binding.uri → ElementChosen outer (declaring [] []) []
element_ended outer xml = record {
  sound = record { xml = xml; own = and_from (is_good (record { prefix = []; uri = [] })) true (and_from _ _ refl (and_from _ _ (ascii_utf8 [] refl) refl)) refl; used = refl };
  uri_is = refl;
  is_there = refl;
  prefix = refl;
}

element_bare : (outer : List Binding) → uri_in (codes "xml") outer ≡ Some xml_binding.uri → is_bound outer [] ≡ false → ElementChosen outer (as_it_stands []) []
element_bare outer xml none = record {
  sound = record { xml = xml; own = refl; used = refl };
  uri_is = unwrap_none (unless_empty (uri_in [] outer)) none;
  is_there = refl;
  prefix = refl;
}
  where
    unwrap_none : (found : Option (List ℕ)) → is_some found ≡ false → unwrap_or found [] ≡ []
    unwrap_none None none = refl
    unwrap_none (Some uri) none = absurd (cc)

empty_uri : (uri : List ℕ) → length uri == 0 ≡ true → [] ≡ uri
empty_uri [] is = refl
empty_uri (b ∷ uri) is = let some = some_bytes b uri in absurd (cc)

element_by : (outer : List Binding) (name : Name) (xml bare default kept : Bool) → uri_in (codes "xml") outer ≡ Some xml_binding.uri → IsNamed name
    → is_xml name ≡ xml → length name.uri == 0 ≡ bare → is_bound outer [] ≡ default → binds outer (asked name) name.uri ≡ kept
    → ElementChosen outer
    (if xml then as_it_stands (codes "xml") else if bare then (if default then declaring [] [] else as_it_stands []) else if kept then as_it_stands (asked name)
    else declaring (asked name) name.uri) name.uri
element_by outer name true bare default kept xml is e1 e2 e3 e4 =
    let uri = (bytes_eq-Decides name.uri xml_binding.uri).0 e1 in
    element_kept outer (codes "xml") name.uri xml (and_from (is_ncname (codes "xml")) (is_utf8 (codes "xml")) refl (ascii_utf8 (codes "xml") refl)) (rw (xml, uri) refl)
element_by outer name false true true kept xml is e1 e2 e3 e4 = subst (λ (uri : List ℕ). ElementChosen outer (declaring [] []) uri) (empty_uri name.uri e2) (element_ended outer xml)
element_by outer name false true false kept xml is e1 e2 e3 e4 = subst (λ (uri : List ℕ). ElementChosen outer (as_it_stands []) uri) (empty_uri name.uri e2) (element_bare outer xml e3)
element_by outer name false false default true xml is e1 e2 e3 e4 =
    let wish = asked_is name is.prefix in
    element_kept outer (asked name) name.uri xml wish.0 (binds_is outer (asked name) name.uri e4)
element_by outer name false false default false xml is e1 e2 e3 e4 =
    let wish = asked_is name is.prefix in
    element_declared outer (asked name) name.uri xml wish.0 wish.1 is.uri_text e2

pub element_chosen : (outer : List Binding) (name : Name) → uri_in (codes "xml") outer ≡ Some xml_binding.uri → IsNamed name → ElementChosen outer (element_choice outer name) name.uri
element_chosen outer name xml is = element_by outer name (is_xml name) (length name.uri == 0) (is_bound outer []) (binds outer (asked name) name.uri) xml is refl refl refl refl
