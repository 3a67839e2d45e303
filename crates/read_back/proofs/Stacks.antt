-- What is open, bound and pending after the lines of events.
use Rattle.std.proofs.Common.{◌≡◌, ℕ, zero, suc, ◌+◌, List, [], ◌∷◌, ◌++◌, if◌then◌else◌, length, reverse, Option, Some, None, count_by, codes, IsTrue}
use Rattle.std.proofs.Common.{refl, sym, ap, ◌∙◌, arith, append_assoc}
use Rattle.std.specs.Option.{option_to_list}
use Rattle.std.specs.Str.{is_utf8}
use Rattle.std.proofs.lemmas.List.Sums.{sum_by-cons}
use Rattle.std.proofs.lemmas.List.{reverse-append, append-nil}
use Rattle.name_grammar.specs.Names.{is_name}
use Rattle.result_events.specs.declared.event.Name.{Name}
use Rattle.result_events.specs.declared.event.Attribute.{Attribute}
use Rattle.xml_names.specs.declared.scopes.Binding.{Binding}
use Rattle.xml_names.specs.Bindings.{xml_binding, uri_in}
use Rattle.pyx_lines.specs.declared.line.Line.{Line}
use Rattle.pyx_lines.specs.declared.line.Line.TheVariants as line
use Rattle.pyx_events.specs.declared.pending_start.Attribute.{Attribute as Given}
use Rattle.pyx_events.specs.declared.pending_start.PendingStart.{PendingStart}
use Rattle.pyx_events.specs.Before.{is_start, is_end, depth, innermost, pending_start, pending_text, bindings, binding_of}
use Rattle.pyx_events.specs.Nodes.{declarations}
use Rattle.pyx_events.specs.Flaw.{start_flaw}
use Rattle.pyx_output.specs.Bytes.{Element, in_force}
use Rattle.pyx_output.specs.Declaring.{element_name}
use Rattle.read_back.proofs.Heads.{line_of}
use Rattle.read_back.proofs.ElementLines.{own_of, given, IsElement}

-- the lines before, with these attribute lines after them
abbrev pub onto : List Line → List Given → List Line
onto before [] = before
onto before (it ∷ lines) = onto (line_of it ∷ before) lines

with_lines : List Given → Option PendingStart → Option PendingStart
with_lines lines None = None
with_lines lines (Some start) = Some (record start { attributes = start.attributes ++ lines })

pub pending-onto : (before : List Line) (start : PendingStart) (lines : List Given) → pending_start before ≡ Some start
    → pending_start (onto before lines) ≡ Some (record start { attributes = start.attributes ++ lines })
pending-onto before start [] is = is ∙ ap (λ (all : List Given). Some (record start { attributes = all })) (sym (append-nil start.attributes))
pending-onto before start (it ∷ lines) is =
    let next : pending_start (line_of it ∷ before) ≡ Some (record start { attributes = start.attributes ++ it ∷ [] }) = rw is refl in
    pending-onto (line_of it ∷ before) (record start { attributes = start.attributes ++ it ∷ [] }) lines next
    ∙ ap (λ (all : List Given). Some (record start { attributes = all })) (append_assoc start.attributes (it ∷ []) lines)

option_back : (made : Option Binding) → reverse (option_to_list made) ≡ option_to_list made
option_back None = refl
option_back (Some binding) = refl

pub bindings-onto : (before : List Line) (lines : List Given) → bindings 0 (onto before lines) ≡ reverse (declarations lines) ++ bindings 0 before
bindings-onto before [] = refl
bindings-onto before (it ∷ lines) =
    let made = option_to_list (binding_of it.name it.value) in
    bindings-onto (line_of it ∷ before) lines
    ∙ (sym (append_assoc (reverse (declarations lines)) made (bindings 0 before))
    ∙ ap (λ (all : List Binding). all ++ bindings 0 before)
    (ap (λ (own : List Binding). reverse (declarations lines) ++ own) (sym (option_back (binding_of it.name it.value))) ∙ sym (reverse-append made (declarations lines))))

pub outer-onto : (before : List Line) (lines : List Given) (k : ℕ) → bindings (suc k) (onto before lines) ≡ bindings (suc k) before
outer-onto before [] k = refl
outer-onto before (it ∷ lines) k = outer-onto (line_of it ∷ before) lines k

pub innermost-onto : (before : List Line) (lines : List Given) (k : ℕ) → innermost k (onto before lines) ≡ innermost k before
innermost-onto before [] k = refl
innermost-onto before (it ∷ lines) k = innermost-onto (line_of it ∷ before) lines k

pub text-onto : (before : List Line) (lines : List Given) → pending_text (onto before lines) ≡ pending_text before
text-onto before [] = refl
text-onto before (it ∷ lines) = text-onto (line_of it ∷ before) lines

pub starts-onto : (before : List Line) (lines : List Given) → count_by is_start (onto before lines) ≡ count_by is_start before
starts-onto before [] = refl
starts-onto before (it ∷ lines) = starts-onto (line_of it ∷ before) lines ∙ omega arith

pub ends-onto : (before : List Line) (lines : List Given) → count_by is_end (onto before lines) ≡ count_by is_end before
ends-onto before [] = refl
ends-onto before (it ∷ lines) = ends-onto (line_of it ∷ before) lines ∙ omega arith

abbrev pub name_at : ℕ → List Element → Option (List ℕ)
name_at k [] = None
name_at zero (element ∷ outer) = Some element.name
name_at (suc k) (element ∷ outer) = name_at k outer

abbrev pub bound_at : ℕ → List Element → List Binding
bound_at zero elements = in_force elements
bound_at (suc k) [] = []
bound_at (suc k) (element ∷ outer) = bound_at k outer

-- these elements are open after these lines, and what is pending is well
pub record Stands (before : List Line) (elements : List Element) : Type 0 where
  pub names : (k : ℕ) → innermost k before ≡ name_at k elements
  pub bound : (k : ℕ) → bindings k before ≡ bound_at k elements
  pub deep : length elements + count_by is_end before ≡ count_by is_start before
  pub sound : start_flaw (bindings 0 before) (depth before) (pending_start before) ≡ None
  pub idle : elements ≡ [] → (pending_start before ≡ None) × (pending_text before ≡ [])

-- an open element's name can be written again, and `xml` is bound in it
pub record IsOpen (element : Element) : Type 0 where
  pub name : IsTrue (is_name element.name)
  pub text : IsTrue (is_utf8 element.name)
  pub xml : uri_in (codes "xml") element.bound ≡ Some xml_binding.uri

abbrev pub AllOpen : List Element → Type 0
AllOpen [] = Unit {0}
AllOpen (element ∷ outer) = IsOpen element × AllOpen outer

pub xml_in_force : (elements : List Element) → AllOpen elements → uri_in (codes "xml") (in_force elements) ≡ Some xml_binding.uri
xml_in_force [] all = refl
xml_in_force (element ∷ outer) all = all.0.xml

pub depth_is : (before : List Line) (elements : List Element) → Stands before elements → depth before ≡ length elements
depth_is before elements stands = let deep = stands.deep in omega arith

-- nothing before
empty_names : (k : ℕ) → innermost k [] ≡ name_at k []
empty_names zero = refl
empty_names (suc k) = refl

empty_bound : (k : ℕ) → bindings k [] ≡ bound_at k []
empty_bound zero = refl
empty_bound (suc k) = refl

pub stands_empty : Stands [] []
stands_empty = record { names = empty_names; bound = empty_bound; deep = refl; sound = refl; idle = λ is. (refl, refl) }

abbrev pub opened : List Binding → Name → List Attribute → Element
opened outer name attributes = record { name = element_name outer name; bound = own_of outer name attributes ++ outer }

start_names : (before : List Line) (elements : List Element) (element : Element) (lines : List Given) → Stands before elements → (k : ℕ)
    → innermost k (onto (line.Start element.name ∷ before) lines) ≡ name_at k (element ∷ elements)
start_names before elements element lines stands zero = innermost-onto (line.Start element.name ∷ before) lines 0
start_names before elements element lines stands (suc k) = innermost-onto (line.Start element.name ∷ before) lines (suc k) ∙ stands.names k

start_bound : (before : List Line) (elements : List Element) (name : Name) (attributes : List Attribute) → Stands before elements → IsElement (in_force elements) name attributes
    → (k : ℕ) → bindings k (onto (line.Start (element_name (in_force elements) name) ∷ before) (given (in_force elements) name attributes)) ≡ bound_at k
    (opened (in_force elements) name attributes ∷ elements)
start_bound before elements name attributes stands is zero =
    let lines = given (in_force elements) name attributes in
    bindings-onto (line.Start (element_name (in_force elements) name) ∷ before) lines
    ∙ (ap (λ (own : List Binding). own ++ bindings 0 before) is.declared ∙ ap (λ (outer : List Binding). own_of (in_force elements) name attributes ++ outer) (stands.bound 0))
start_bound before elements name attributes stands is (suc k) =
    outer-onto (line.Start (element_name (in_force elements) name) ∷ before) (given (in_force elements) name attributes) k ∙ stands.bound k

start_of : List Line → List Binding → Name → List Attribute → PendingStart
start_of before outer name attributes = record { name = element_name outer name; line = length before + 1; attributes = given outer name attributes }

pub start_pending : (before : List Line) (outer : List Binding) (name : Name) (attributes : List Attribute)
    → pending_start (onto (line.Start (element_name outer name) ∷ before) (given outer name attributes)) ≡ Some
    (record { name = element_name outer name; line = length before + 1; attributes = given outer name attributes })
start_pending before outer name attributes = pending-onto (line.Start (element_name outer name) ∷ before) (record { name = element_name outer name; line = length before + 1; attributes = [] })
    (given outer name attributes) refl

pub stands_start : (before : List Line) (elements : List Element) (name : Name) (attributes : List Attribute) → Stands before elements → IsElement (in_force elements) name attributes
    → Stands (onto (line.Start (element_name (in_force elements) name) ∷ before) (given (in_force elements) name attributes)) (opened (in_force elements) name attributes ∷ elements)
stands_start before elements name attributes stands is =
    let outer = in_force elements in
    let lines = given outer name attributes in
    let begun = line.Start (element_name outer name) ∷ before in
    let bound = start_bound before elements name attributes stands is in
    let first = bound 0 in
    let pending = start_pending before outer name attributes in
    let starts : count_by is_start (onto begun lines) ≡ count_by is_start begun = starts-onto begun lines in
    let ends : count_by is_end (onto begun lines) ≡ count_by is_end begun = ends-onto begun lines in
    let deep = stands.deep in
    let one : count_by is_start begun ≡ 1 + count_by is_start before = sum_by-cons (λ (one : Line). if is_start one then 1 else 0) (line.Start (element_name outer name)) before in
    let same : count_by is_end begun ≡ count_by is_end before = omega arith in
    record {
      names = start_names before elements (opened outer name attributes) lines stands;
      bound = bound;
      deep = omega arith;
      sound = rw (first, pending) (is.flaw (depth (onto begun lines)) (length before + 1));
      idle = λ none. absurd (cc);
    }

idle_text : (before : List Line) (text : List ℕ) → depth before ≡ 0 → pending_text before ≡ [] → pending_text (line.Text text ∷ before) ≡ []
idle_text before text flat none = rw flat none

pub stands_text : (before : List Line) (elements : List Element) (text : List ℕ) → Stands before elements → Stands (line.Text text ∷ before) elements
stands_text before elements text stands =
    let deep = stands.deep in
    record {
      names = stands.names;
      bound = stands.bound;
      deep = omega arith;
      sound = refl;
      idle = λ none. (refl, idle_text before text (depth_is before elements stands ∙ ap length none) (stands.idle none).1);
    }

pub stands_instruction : (before : List Line) (elements : List Element) (target value : List ℕ) → Stands before elements → Stands (line.Instruction target value ∷ before) elements
stands_instruction before elements target value stands =
    let deep = stands.deep in
    record { names = stands.names; bound = stands.bound; deep = omega arith; sound = refl; idle = λ none. (refl, refl) }

pub stands_comment : (before : List Line) (elements : List Element) (text : List ℕ) → Stands before elements → Stands (line.Comment text ∷ before) elements
stands_comment before elements text stands =
    let deep = stands.deep in
    record { names = stands.names; bound = stands.bound; deep = omega arith; sound = refl; idle = λ none. (refl, refl) }

pub stands_end : (before : List Line) (element : Element) (outer : List Element) → Stands before (element ∷ outer) → Stands (line.End element.name ∷ before) outer
stands_end before element outer stands =
    let deep = stands.deep in
    let one : count_by is_end (line.End element.name ∷ before) ≡ 1 + count_by is_end before = sum_by-cons (λ (one : Line). if is_end one then 1 else 0) (line.End element.name) before in
    let same : count_by is_start (line.End element.name ∷ before) ≡ count_by is_start before = omega arith in
    record { names = λ k. stands.names (suc k); bound = λ k. stands.bound (suc k); deep = omega arith; sound = refl; idle = λ none. (refl, refl) }
