-- The rows of readable lines have names, URIs and values that a line can give.
use Rattle.std.proofs.Common.{◌≡◌, ℕ, zero, suc, ◌+◌, ◌<◌, ◌==◌, Bool, true, false, ◌&&◌, ◌||◌, not, cond, List, [], ◌∷◌, ◌++◌, length, get_or, take}
use Rattle.std.proofs.Common.{drop, Option, Some, None, codes, refl, ap, sym, ◌∙◌, arith, inl, inr}
use Rattle.std.specs.List.{list_any, list_all}
use Rattle.std.specs.Prelude.{unwrap_or, is_some, nat_lt, slice_index}
use Rattle.std.specs.Option.{option_to_list}
use Rattle.std.specs.Str.{is_utf8, bytes_eq}
use Rattle.std.proofs.lemmas.Bool.{cases_Bool, and_parts, and_from, false≢true}
use Rattle.std.proofs.lemmas.Bool.Decides.{nat_tests}
use Rattle.std.proofs.lemmas.List.Quantifiers.{position-Some}
use Rattle.std.proofs.lemmas.Str.{IsUtf8-append, IsUtf8-nil, IsUtf8-take, IsUtf8-drop, IsCharBoundary-before_ascii, IsCharBoundary-after_ascii}
use Rattle.std.proofs.lemmas.Str.{IsUtf8-from_ascii, IsUtf8-from_is_utf8, is_utf8-from_IsUtf8}
use Rattle.name_grammar.specs.Names.{is_ncname, is_name, colon_in, prefix_of, local_of}
use Rattle.doc_model.specs.Legible.{is_empty, is_part, is_legible, all_legible}
use Rattle.xml_names.specs.declared.scopes.Binding.{Binding}
use Rattle.xml_names.specs.Bindings.{xml_binding, is_fixed, uri_in, unless_empty}
use Rattle.pyx_lines.specs.declared.line.Line.{Line}
use Rattle.pyx_lines.specs.declared.line.Line.TheVariants.{Start, End, Attr, Text, Instruction, Comment, Passed}
use Rattle.pyx_events.specs.declared.pending_start.Attribute.{Attribute}
use Rattle.pyx_events.specs.declared.pending_start.PendingStart.{PendingStart}
use Rattle.pyx_events.specs.Before.{depth, with_attribute, pending_start, pending_text, declared_prefix, is_declaration, binding_of, bindings}
use Rattle.pyx_events.specs.Nodes.{resolve, uri_of, attribute_uri, element_row, attribute_row, attribute_rows}
use Rattle.pyx_events.specs.Flaw.{is_unbound, attribute_unbound}
use Rattle.dtm_builder.specs.Lines.{AreReadable}

nil_utf8 : is_utf8 [] ≡ true
nil_utf8 = is_utf8-from_IsUtf8 [] IsUtf8-nil

both_utf8 : (xs ys : List ℕ) → is_utf8 xs ≡ true → is_utf8 ys ≡ true → is_utf8 (xs ++ ys) ≡ true
both_utf8 xs ys x y = is_utf8-from_IsUtf8 (xs ++ ys) (IsUtf8-append xs ys (IsUtf8-from_is_utf8 xs x) (IsUtf8-from_is_utf8 ys y))

-- both parts of a name are names, or the first is empty
pub record HasParts (name : List ℕ) : Type 0 where
  pub prefix : (is_empty (prefix_of name) || is_part (prefix_of name)) ≡ true
  pub local : is_part (local_of name) ≡ true

or_right : (a b : Bool) → b ≡ true → (a || b) ≡ true
or_right true b h = refl
or_right false b h = h

parts_by : (name : List ℕ) (at : Option ℕ) → colon_in name ≡ at → is_name name ≡ true → is_utf8 name ≡ true → HasParts name
parts_by name None at is u =
    let whole : is_ncname name ≡ true = rw at at is in
    record { prefix = rw at refl; local = rw at (and_from _ _ whole u) }
parts_by name (Some k) at is u =
    let found = position-Some (λ b. b == 58) name k 0 at in
    let colon : get_or name k 0 ≡ 58 = grind (arith, nat_tests, found.1) in
    let low : get_or name k 0 < 128 = omega (arith, colon) in
    let text = IsUtf8-from_is_utf8 name u in
    let parts : (is_ncname (take k name) && is_ncname (drop (k + 1) name)) ≡ true = rw at at is in
    let two = and_parts _ _ parts in
    let front : is_utf8 (take k name) ≡ true = is_utf8-from_IsUtf8 _ (IsUtf8-take name k text (IsCharBoundary-before_ascii name k found.0 low)) in
    let back : is_utf8 (drop (k + 1) name) ≡ true = is_utf8-from_IsUtf8 _ (IsUtf8-drop name (k + 1) text (IsCharBoundary-after_ascii name k text found.0 low)) in
    record {
      prefix = rw at (or_right (is_empty (take k name)) _ (and_from _ _ two.0 front));
      local = rw at (and_from _ _ two.1 back);
    }

pub has_parts : (name : List ℕ) → is_name name ≡ true → is_utf8 name ≡ true → HasParts name
has_parts name is u = parts_by name (colon_in name) refl is u

-- the URIs that are bound are UTF-8
abbrev pub AreText : List Binding → Type 0
AreText [] = Unit {0}
AreText (binding ∷ bound) = (is_utf8 binding.uri ≡ true) × AreText bound

found_text : (uri : List ℕ) → is_utf8 uri ≡ true → is_utf8 (unwrap_or (unless_empty (Some uri)) []) ≡ true
found_text [] h = nil_utf8
found_text (b ∷ uri) h = h

pub uri_text : (bound : List Binding) (prefix : List ℕ) → AreText bound → is_utf8 (uri_of bound prefix) ≡ true
uri_text [] prefix t = nil_utf8
uri_text (binding ∷ bound) prefix t = elim (cases_Bool (bytes_eq binding.prefix prefix)) [
  | inl e ↦ rw e (found_text binding.uri t.0)
  | inr e ↦ rw e (uri_text bound prefix t.1)
]

attribute_uri_text : (bound : List Binding) (prefix : List ℕ) → AreText bound → is_utf8 (attribute_uri bound prefix) ≡ true
attribute_uri_text bound prefix t = elim (cases_Bool (length prefix == 0)) [
  | inl e ↦ rw e nil_utf8
  | inr e ↦ rw e (uri_text bound prefix t)
]

-- an attribute line of a start, as it is read
abbrev pub IsText : Attribute → Type 0
IsText it = (is_name it.name ≡ true) × (is_utf8 it.name ≡ true) × (is_utf8 it.value ≡ true)

abbrev pub AreTexts : List Attribute → Type 0
AreTexts [] = Unit {0}
AreTexts (it ∷ lines) = IsText it × AreTexts lines

element_legible : (bound : List Binding) (deep : ℕ) (name : List ℕ) → is_name name ≡ true → is_utf8 name ≡ true → AreText bound → is_legible (element_row bound deep name) ≡ true
element_legible bound deep name is u t =
    let parts = has_parts name is u in
    and_from _ _ (and_from _ _ parts.prefix parts.local) (and_from _ _ (uri_text bound (prefix_of name) t) nil_utf8)

-- an attribute that is no declaration, with a prefix that is bound, is not called xmlns without a namespace
empty_is : (bytes : List ℕ) → (length bytes == 0) ≡ true → bytes ≡ []
empty_is [] h = refl
empty_is (b ∷ bytes) h = absurd (grind (arith, nat_tests, h))

bound_uri : (found : Option (List ℕ)) → is_some (unless_empty found) ≡ true → is_empty (unwrap_or (unless_empty found) []) ≡ false
bound_uri None h = absurd (false≢true h)
bound_uri (Some []) h = absurd (false≢true h)
bound_uri (Some (b ∷ uri)) h = refl

-- without a prefix the local name is the whole
whole_by : (name : List ℕ) (at : Option ℕ) → colon_in name ≡ at → is_name name ≡ true → prefix_of name ≡ [] → local_of name ≡ name
whole_by name None at is e = rw at refl
whole_by name (Some k) at is e =
    let parts : (is_ncname (take k name) && is_ncname (drop (k + 1) name)) ≡ true = rw at at is in
    let none : take k name ≡ [] = rw at at e in
    absurd (false≢true (sym (ap is_ncname none) ∙ (and_parts _ _ parts).0))

not_declared : (name : List ℕ) → is_declaration name ≡ false → bytes_eq name (codes "xmlns") ≡ false
not_declared name h = elim (cases_Bool (bytes_eq name (codes "xmlns"))) [
  | inl e ↦ absurd (false≢true (sym h ∙ rw e refl))
  | inr e ↦ e
]

and_false : (a : Bool) → (a && false) ≡ false
and_false true = refl
and_false false = refl

or_neither : (a b : Bool) → (a || b) ≡ false → (a ≡ false) × (b ≡ false)
or_neither true b h = absurd (false≢true (sym h))
or_neither false b h = (refl, h)

is_bound : (bare there : Bool) → bare ≡ false → (not bare && not there) ≡ false → there ≡ true
is_bound true there e h = absurd (false≢true (sym e))
is_bound false true e h = refl
is_bound false false e h = absurd (false≢true (sym h))

unbound_here : (declared unbound : Bool) → declared ≡ false → (not declared && unbound) ≡ false → unbound ≡ false
unbound_here true unbound e h = absurd (false≢true (sym e))
unbound_here false unbound e h = h

abbrev is_low : ℕ → Bool
is_low b = nat_lt b 128

low_at : (bytes : List ℕ) → list_all is_low bytes ≡ true → (i : ℕ) → slice_index bytes i < 128
low_at [] h i = omega arith
low_at (b ∷ bytes) h zero = grind (arith, nat_tests, h)
low_at (b ∷ bytes) h (suc i) = low_at bytes (and_parts _ _ h).1 i

pub ascii_text : (bytes : List ℕ) → list_all is_low bytes ≡ true → is_utf8 bytes ≡ true
ascii_text bytes h = is_utf8-from_IsUtf8 bytes (IsUtf8-from_ascii bytes (low_at bytes h))

xml_text : is_utf8 xml_binding.uri ≡ true
xml_text = ascii_text xml_binding.uri refl

plain_legible : (bound : List Binding) (deep : ℕ) (it : Attribute) → IsText it → AreText bound → is_declaration it.name ≡ false → is_unbound bound (prefix_of it.name) ≡ false
    → (is_empty (attribute_uri bound (prefix_of it.name)) && bytes_eq (local_of it.name) (codes "xmlns")) ≡ false
plain_legible bound deep it h t d b = elim (cases_Bool (length (prefix_of it.name) == 0)) [
  | inl e ↦
      let whole : local_of it.name ≡ it.name = whole_by it.name (colon_in it.name) refl h.0 (empty_is (prefix_of it.name) e) in
      let other : bytes_eq (local_of it.name) (codes "xmlns") ≡ false = ap (λ name. bytes_eq name (codes "xmlns")) whole ∙ not_declared it.name d in
      ap (λ x. is_empty (attribute_uri bound (prefix_of it.name)) && x) other ∙ and_false _
  | inr e ↦
      let there : is_some (resolve bound (prefix_of it.name)) ≡ true = is_bound (length (prefix_of it.name) == 0) (is_some (resolve bound (prefix_of it.name))) e b in
      let full : is_empty (attribute_uri bound (prefix_of it.name)) ≡ false =
      ap (λ x. is_empty (cond x [] (uri_of bound (prefix_of it.name)))) e ∙ bound_uri (uri_in (prefix_of it.name) bound) there in
      ap (λ x. x && bytes_eq (local_of it.name) (codes "xmlns")) full
]

attribute_legible : (bound : List Binding) (deep : ℕ) (it : Attribute) → IsText it → AreText bound → is_declaration it.name ≡ false → is_unbound bound (prefix_of it.name) ≡ false
    → is_legible (attribute_row bound deep it) ≡ true
attribute_legible bound deep it h t d b =
    let parts = has_parts it.name h.0 h.1 in
    and_from _ _
    (and_from _ _ (and_from _ _ parts.prefix parts.local) (ap not (plain_legible bound deep it h t d b)))
    (and_from _ _ (attribute_uri_text bound (prefix_of it.name) t) h.2)

pub attributes_legible : (bound : List Binding) (deep : ℕ) (lines : List Attribute) → AreTexts lines → AreText bound → list_any (attribute_unbound bound) lines ≡ false
    → all_legible (attribute_rows bound deep lines) ≡ true
attributes_legible bound deep [] h t b = refl
attributes_legible bound deep (it ∷ lines) h t b =
    let two = or_neither _ _ b in
    let rest = attributes_legible bound deep lines h.1 t two.1 in
    elim (cases_Bool (is_declaration it.name)) [
      | inl e ↦ rw e rest
      | inr e ↦
          let here : is_unbound bound (prefix_of it.name) ≡ false = unbound_here (is_declaration it.name) _ e two.0 in
          rw e (and_from _ _ (attribute_legible bound deep it h.0 t e here) rest)
    ]

-- the node of a start has what lines can give
pub start_legible : (bound : List Binding) (deep : ℕ) (it : PendingStart) → is_name it.name ≡ true → is_utf8 it.name ≡ true → AreTexts it.attributes → AreText bound
    → list_any (attribute_unbound bound) it.attributes ≡ false
    → all_legible (element_row bound deep it.name ∷ attribute_rows bound (deep + 1) it.attributes) ≡ true
start_legible bound deep it is u h t b = and_from _ _ (element_legible bound deep it.name is u t) (attributes_legible bound (deep + 1) it.attributes h t b)

-- what readable lines bind
made_text : (name value : List ℕ) (bound : List Binding) → is_utf8 value ≡ true → AreText bound → (prefix : Option (List ℕ)) → declared_prefix name ≡ prefix
    → AreText (option_to_list (binding_of name value) ++ bound)
made_text name value bound u t None is = rw is t
made_text name value bound u t (Some prefix) is = elim (cases_Bool (is_fixed prefix)) [
  | inl e ↦ rw (is, e) t
  | inr e ↦ rw (is, e) (u, t)
]

binding_text : (name value : List ℕ) (bound : List Binding) → is_utf8 value ≡ true → AreText bound → AreText (option_to_list (binding_of name value) ++ bound)
binding_text name value bound u t = made_text name value bound u t (declared_prefix name) refl

pub bindings_text : (k : ℕ) (before : List Line) → AreReadable before → AreText (bindings k before)
bindings_text zero [] r = (xml_text, tt)
bindings_text (suc k) [] r = tt
bindings_text zero (Start name ∷ before) r = bindings_text zero before r.1
bindings_text (suc k) (Start name ∷ before) r = bindings_text k before r.1
bindings_text k (End name ∷ before) r = bindings_text (suc k) before r.1
bindings_text zero (Attr name value ∷ before) r = binding_text name value (bindings zero before) r.0.2 (bindings_text zero before r.1)
bindings_text (suc k) (Attr name value ∷ before) r = bindings_text (suc k) before r.1
bindings_text k (Text text ∷ before) r = bindings_text k before r.1
bindings_text k (Instruction target value ∷ before) r = bindings_text k before r.1
bindings_text k (Comment text ∷ before) r = bindings_text k before r.1
bindings_text k (Passed ∷ before) r = bindings_text k before r.1

-- the text that is pending
pub pending_utf8 : (before : List Line) → AreReadable before → is_utf8 (pending_text before) ≡ true
pending_utf8 [] r = nil_utf8
pending_utf8 (Start name ∷ before) r = nil_utf8
pending_utf8 (End name ∷ before) r = nil_utf8
pending_utf8 (Attr name value ∷ before) r = pending_utf8 before r.1
pending_utf8 (Text text ∷ before) r = elim (cases_Bool (depth before == 0)) [
  | inl e ↦ rw e (pending_utf8 before r.1)
  | inr e ↦ rw e (both_utf8 (pending_text before) text (pending_utf8 before r.1) r.0)
]
pending_utf8 (Instruction target value ∷ before) r = nil_utf8
pending_utf8 (Comment text ∷ before) r = nil_utf8
pending_utf8 (Passed ∷ before) r = pending_utf8 before r.1

-- the start that is pending
abbrev pub IsReadableStart : Option PendingStart → Type 0
IsReadableStart None = Unit {0}
IsReadableStart (Some it) = (is_name it.name ≡ true) × (is_utf8 it.name ≡ true) × AreTexts it.attributes

more_texts : (lines : List Attribute) (it : Attribute) → AreTexts lines → IsText it → AreTexts (lines ++ it ∷ [])
more_texts [] it h t = (t, tt)
more_texts (one ∷ lines) it h t = (h.0, more_texts lines it h.1 t)

with_attribute_readable : (name value : List ℕ) (start : Option PendingStart) → IsReadableStart start → IsText (record { name = name; value = value })
    → IsReadableStart (with_attribute name value start)
with_attribute_readable name value None h t = tt
with_attribute_readable name value (Some start) h t = (h.0, h.1, more_texts start.attributes (record { name = name; value = value }) h.2 t)

pub pending_readable : (before : List Line) → AreReadable before → IsReadableStart (pending_start before)
pending_readable [] r = tt
pending_readable (Start name ∷ before) r = (r.0.0, r.0.1, tt)
pending_readable (End name ∷ before) r = tt
pending_readable (Attr name value ∷ before) r = with_attribute_readable name value (pending_start before) (pending_readable before r.1) (r.0.0, r.0.1, r.0.2)
pending_readable (Text text ∷ before) r = tt
pending_readable (Instruction target value ∷ before) r = tt
pending_readable (Comment text ∷ before) r = tt
pending_readable (Passed ∷ before) r = pending_readable before r.1
