-- The steps of flawless lines may come one after the other. The lines before are given with the latest first.
use Rattle.std.proofs.Common.{◌≡◌, ℕ, ◌+◌, ◌-◌, ◌<◌, ◌≤◌, ◌==◌, Bool, true, false, cond, List, [], ◌∷◌, ◌++◌, length, Option, Some, None, refl, ap, sym, ◌∙◌, subst, arith, inl, inr}
use Rattle.std.specs.List.{count_by}
use Rattle.std.specs.Str.{is_utf8}
use Rattle.std.proofs.lemmas.Bool.{cases_Bool, false≢true}
use Rattle.std.proofs.lemmas.List.Sums.{sum_by-cons}
use Rattle.std.proofs.lemmas.Str.{IsUtf8-nil, is_utf8-from_IsUtf8}
use Rattle.name_grammar.specs.Names.{is_ncname}
use Rattle.doc_model.specs.declared.step.Step.{Step}
use Rattle.doc_model.specs.Document.{Document, after, document_from, tail_of}
use Rattle.doc_model.specs.Lawful.{AllAttributes, LawfulFrom}
use Rattle.doc_model.specs.Legible.{all_legible}
use Rattle.xml_names.specs.declared.scopes.Binding.{Binding}
use Rattle.pyx_lines.specs.declared.line.Line.{Line}
use Rattle.pyx_lines.specs.declared.line.Line.TheVariants.{Start, End, Attr, Text, Instruction, Comment, Passed}
use Rattle.pyx_events.specs.declared.event.Event.{Event}
use Rattle.pyx_events.specs.declared.event.Event.TheVariants as event
use Rattle.pyx_events.specs.declared.pending_start.Attribute.{Attribute}
use Rattle.pyx_events.specs.declared.pending_start.PendingStart.{PendingStart}
use Rattle.pyx_events.specs.Before.{is_start, is_end, depth, with_attribute, pending_start, completed_start, pending_text, is_declaration, bindings, uris_to}
use Rattle.pyx_events.specs.Nodes.{element_row, attribute_rows, text_row, instruction_row, comment_row, plain_node, element_node, start_node, completed, text_node, ended_text, line_events}
use Rattle.pyx_events.specs.Steps.{step_of, steps_of_events}
use Rattle.dtm_builder.specs.Lines.{IsReadable}

-- nothing has ended, and so many rows are open
pub record IsOpen (d : Document) (n : ℕ) : Type 0 where
  pub going : d.ended ≡ None
  pub opened : length d.opened ≡ n

-- the steps may come, and then so many rows are open
pub record Leads (d : Document) (steps : List Step) (n : ℕ) : Type 0 where
  pub lawful : LawfulFrom d steps
  pub left : IsOpen (document_from d steps) n

lawful_join : (d : Document) (xs ys : List Step) → LawfulFrom d xs → LawfulFrom (document_from d xs) ys → LawfulFrom d (xs ++ ys)
lawful_join d [] ys l m = m
lawful_join d (x ∷ xs) ys l m = (l.0, l.1, lawful_join (after d x) xs ys l.2 m)

document_join : (d : Document) (xs ys : List Step) → document_from d (xs ++ ys) ≡ document_from (document_from d xs) ys
document_join d [] ys = refl
document_join d (x ∷ xs) ys = document_join (after d x) xs ys

pub leads_none : (d : Document) (n : ℕ) → IsOpen d n → Leads d [] n
leads_none d n o = record { lawful = tt; left = o }

pub leads_join : (d : Document) (xs ys : List Step) (m n : ℕ) → Leads d xs m → ((e : Document) → IsOpen e m → Leads e ys n) → Leads d (xs ++ ys) n
leads_join d xs ys m n a b =
    let c = b (document_from d xs) a.left in
    record {
      lawful = lawful_join d xs ys a.lawful c.lawful;
      left = subst (λ e. IsOpen e n) (sym (document_join d xs ys)) c.left;
    }

pub steps_join : (xs ys : List Event) → steps_of_events (xs ++ ys) ≡ steps_of_events xs ++ steps_of_events ys
steps_join [] ys = refl
steps_join (x ∷ xs) ys = ap (λ all. step_of x ∷ all) (steps_join xs ys)

pub leads_both : (d : Document) (xs ys : List Event) (m n : ℕ) → Leads d (steps_of_events xs) m → ((e : Document) → IsOpen e m → Leads e (steps_of_events ys) n)
    → Leads d (steps_of_events (xs ++ ys)) n
leads_both d xs ys m n a b = subst (λ all. Leads d all n) (sym (steps_join xs ys)) (leads_join d (steps_of_events xs) (steps_of_events ys) m n a b)

pub leads_after : (d : Document) (xs ys : List Event) (n : ℕ) → LawfulFrom d (steps_of_events xs) → Leads (document_from d (steps_of_events xs)) (steps_of_events ys) n
    → Leads d (steps_of_events (xs ++ ys)) n
leads_after d xs ys n l a = subst (λ all. Leads d all n) (sym (steps_join xs ys)) (record {
  lawful = lawful_join d (steps_of_events xs) (steps_of_events ys) l a.lawful;
  left = subst (λ e. IsOpen e n) (sym (document_join d (steps_of_events xs) (steps_of_events ys))) a.left;
})

-- an element's node
all_attributes : (bound : List Binding) (deep : ℕ) (lines : List Attribute) → AllAttributes deep (attribute_rows bound (deep + 1) lines)
all_attributes bound deep [] = tt
all_attributes bound deep (it ∷ lines) = elim (cases_Bool (is_declaration it.name)) [
  | inl e ↦ rw e (all_attributes bound deep lines)
  | inr e ↦ rw e ((refl, omega arith), all_attributes bound deep lines)
]

-- the node of a start has names and values of lines
abbrev pub IsLegibleStart : List Binding → ℕ → Option PendingStart → Type 0
IsLegibleStart bound deep None = Unit {0}
IsLegibleStart bound deep (Some it) = all_legible (element_row bound deep it.name ∷ attribute_rows bound (deep + 1) it.attributes) ≡ true

element_leads : (d : Document) (uris : List (List ℕ)) (bound : List Binding) (deep : ℕ) (it : PendingStart) → IsOpen d deep → IsLegibleStart bound deep (Some it)
    → Leads d (steps_of_events (element_node uris bound deep it ∷ [])) (deep + 1)
element_leads d uris bound deep it o l = record {
  lawful = (o.going, record { kind = refl; depth = sym o.opened; bare = λ e. absurd (false≢true (sym e)); carried = all_attributes bound deep it.attributes; legible = l }, tt);
  left = record { going = o.going; opened = omega (arith, o.opened) };
}

-- how many starts are pending
abbrev pub pending_count : Option PendingStart → ℕ
pending_count None = 0
pending_count (Some it) = 1

start_leads : (d : Document) (uris : List (List ℕ)) (bound : List Binding) (deep n : ℕ) (it : Option PendingStart) → IsOpen d n → n + pending_count it ≡ deep + 1
    → IsLegibleStart bound deep it → Leads d (steps_of_events (start_node uris bound deep it)) (deep + 1)
start_leads d uris bound deep n None o e l = leads_none d (deep + 1) (record { going = o.going; opened = omega (arith, o.opened, e) })
start_leads d uris bound deep n (Some it) o e l = element_leads d uris bound deep it (record { going = o.going; opened = omega (arith, o.opened, e) }) l

nil_utf8 : is_utf8 [] ≡ true
nil_utf8 = is_utf8-from_IsUtf8 [] IsUtf8-nil

-- a text's node
text_legible : (n : ℕ) (text : List ℕ) → is_utf8 text ≡ true → all_legible (text_row n text ∷ []) ≡ true
text_legible n text u = rw (nil_utf8, u) refl

text_leads : (d : Document) (n line : ℕ) (text : List ℕ) → IsOpen d n → is_utf8 text ≡ true → Leads d (steps_of_events (text_node n text line)) n
text_leads d n line text o u = elim (cases_Bool (length text == 0)) [
  | inl e ↦ rw e (leads_none d n o)
  | inr e ↦ rw e (record {
    lawful = (o.going, record { kind = refl; depth = sym o.opened; bare = λ e. refl; carried = tt; legible = text_legible n text u }, tt);
    left = record { going = o.going; opened = o.opened };
  })
]

-- an instruction's node
instruction_legible : (n : ℕ) (target value : List ℕ) → is_ncname target ≡ true → is_utf8 target ≡ true → is_utf8 value ≡ true → all_legible (instruction_row n target value ∷ []) ≡ true
instruction_legible n target value c t v = rw (nil_utf8, c, t, v) refl

instruction_leads : (d : Document) (n line : ℕ) (target value : List ℕ) → IsOpen d n → is_ncname target ≡ true → is_utf8 target ≡ true → is_utf8 value ≡ true
    → Leads d (steps_of_events (plain_node (instruction_row n target value) line ∷ [])) n
instruction_leads d n line target value o c t v = record {
  lawful = (o.going, record { kind = refl; depth = sym o.opened; bare = λ e. refl; carried = tt; legible = instruction_legible n target value c t v }, tt);
  left = record { going = o.going; opened = o.opened };
}

-- a comment's node
comment_legible : (n : ℕ) (text : List ℕ) → is_utf8 text ≡ true → all_legible (comment_row n text ∷ []) ≡ true
comment_legible n text u = rw (nil_utf8, u) refl

comment_leads : (d : Document) (n line : ℕ) (text : List ℕ) → IsOpen d n → is_utf8 text ≡ true → Leads d (steps_of_events (plain_node (comment_row n text) line ∷ [])) n
comment_leads d n line text o u = record {
  lawful = (o.going, record { kind = refl; depth = sym o.opened; bare = λ e. refl; carried = tt; legible = comment_legible n text u }, tt);
  left = record { going = o.going; opened = o.opened };
}

-- an end
tail_length : (xs : List ℕ) (n : ℕ) → length xs ≡ n + 1 → length (tail_of xs) ≡ n
tail_length [] n e = absurd (omega (arith, e))
tail_length (x ∷ xs) n e = omega (arith, e)

shut_leads : (d : Document) (n : ℕ) → IsOpen d (n + 1) → 0 < n → Leads d (steps_of_events (event.Shut ∷ [])) n
shut_leads d n o some = record {
  lawful = (o.going, omega (arith, o.opened, some), tt);
  left = record { going = o.going; opened = tail_length d.opened n o.opened };
}

-- how many elements are open after one more line
one_more : (test : Line → Bool) (line : Line) (before : List Line) → count_by test (line ∷ before) ≡ cond (test line) 1 0 + count_by test before
one_more test line before = sum_by-cons (λ it. cond (test it) 1 0) line before

pub depth_start : (name : List ℕ) (before : List Line) → count_by is_end before ≤ count_by is_start before → depth (Start name ∷ before) ≡ depth before + 1
depth_start name before b = omega (arith, b, one_more is_start (Start name) before, one_more is_end (Start name) before)

depth_end : (name : List ℕ) (before : List Line) → depth before ≡ depth (End name ∷ before) + (depth before - depth (End name ∷ before))
depth_end name before = omega (arith, one_more is_start (End name) before, one_more is_end (End name) before)

depth_end_one : (name : List ℕ) (before : List Line) → 0 < depth before → depth before ≡ depth (End name ∷ before) + 1
depth_end_one name before some = omega (arith, some, one_more is_start (End name) before, one_more is_end (End name) before)

pub depth_other : (line : Line) (before : List Line) → is_start line ≡ false → is_end line ≡ false → depth (line ∷ before) ≡ depth before
depth_other line before s e =
    let starts : count_by is_start (line ∷ before) ≡ 0 + count_by is_start before = one_more is_start line before ∙ ap (λ b. cond b 1 0 + count_by is_start before) s in
    let ends : count_by is_end (line ∷ before) ≡ 0 + count_by is_end before = one_more is_end line before ∙ ap (λ b. cond b 1 0 + count_by is_end before) e in
    omega (arith, starts, ends)

-- what the next line's steps need
pub record IsSound (before : List Line) (line : Line) : Type 0 where
  pub balanced : count_by is_end before ≤ count_by is_start before
  pub open_elements : is_end line ≡ true → 0 < depth before
  pub start_legible : IsLegibleStart (bindings 0 before) (depth before) (completed_start before line)
  pub text : is_utf8 (pending_text before) ≡ true
  pub readable : IsReadable line

pending_kept : (name value : List ℕ) (it : Option PendingStart) → pending_count (with_attribute name value it) ≡ pending_count it
pending_kept name value None = refl
pending_kept name value (Some it) = refl

-- the steps of the next line, and how many rows are open then
pub line_leads : (before : List Line) (line : Line) (d : Document) (n : ℕ) → IsSound before line → IsOpen d n → n + pending_count (pending_start before) ≡ depth before + 1
    → (m : ℕ) × Leads d (steps_of_events (line_events before line)) m × (m + pending_count (pending_start (line ∷ before)) ≡ depth (line ∷ before) + 1)
line_leads before (Start name) d n s o e = (
  depth before + 1,
  leads_both d (completed before (pending_start before)) (ended_text before) (depth before + 1) (depth before + 1)
      (start_leads d (uris_to before) (bindings 0 before) (depth before) n (pending_start before) o e s.start_legible)
      (λ q p. text_leads q (depth before + 1) (length before + 1) (pending_text before) p s.text),
  omega (arith, depth_start name before s.balanced),
)
line_leads before (End name) d n s o e =
    let some = s.open_elements refl in (
      depth before,
      leads_both d (completed before (pending_start before)) (ended_text before ++ event.Shut ∷ []) (depth before + 1) (depth before)
          (start_leads d (uris_to before) (bindings 0 before) (depth before) n (pending_start before) o e s.start_legible)
          (λ q p. leads_both q (ended_text before) (event.Shut ∷ []) (depth before + 1) (depth before)
          (text_leads q (depth before + 1) (length before + 1) (pending_text before) p s.text)
          (λ r t. shut_leads r (depth before) t some)),
      omega (arith, depth_end_one name before some),
    )
line_leads before (Attr name value) d n s o e =
    (n, leads_none d n o, ap (λ k. n + k) (pending_kept name value (pending_start before)) ∙ e ∙ ap (λ k. k + 1) (sym (depth_other (Attr name value) before refl refl)))
line_leads before (Text text) d n s o e = (
  depth before + 1,
  leads_both d (completed before (pending_start before)) [] (depth before + 1) (depth before + 1)
      (start_leads d (uris_to before) (bindings 0 before) (depth before) n (pending_start before) o e s.start_legible)
      (λ q p. leads_none q (depth before + 1) p),
  omega (arith, depth_other (Text text) before refl refl),
)
line_leads before (Instruction target value) d n s o e = (
  depth before + 1,
  leads_both d (completed before (pending_start before)) (ended_text before ++ plain_node (instruction_row (depth before + 1) target value) (length before + 1) ∷ [])
      (depth before + 1) (depth before + 1)
      (start_leads d (uris_to before) (bindings 0 before) (depth before) n (pending_start before) o e s.start_legible)
      (λ q p. leads_both q (ended_text before) (plain_node (instruction_row (depth before + 1) target value) (length before + 1) ∷ []) (depth before + 1) (depth before + 1)
      (text_leads q (depth before + 1) (length before + 1) (pending_text before) p s.text)
      (λ r t. instruction_leads r (depth before + 1) (length before + 1) target value t s.readable.0 s.readable.1 s.readable.2)),
  omega (arith, depth_other (Instruction target value) before refl refl),
)
line_leads before (Comment text) d n s o e = (
  depth before + 1,
  leads_both d (completed before (pending_start before)) (ended_text before ++ plain_node (comment_row (depth before + 1) text) (length before + 1) ∷ []) (depth before + 1) (depth before + 1)
      (start_leads d (uris_to before) (bindings 0 before) (depth before) n (pending_start before) o e s.start_legible)
      (λ q p. leads_both q (ended_text before) (plain_node (comment_row (depth before + 1) text) (length before + 1) ∷ []) (depth before + 1) (depth before + 1)
      (text_leads q (depth before + 1) (length before + 1) (pending_text before) p s.text)
      (λ r t. comment_leads r (depth before + 1) (length before + 1) text t s.readable)),
  omega (arith, depth_other (Comment text) before refl refl),
)
line_leads before Passed d n s o e = (n, leads_none d n o, e ∙ ap (λ k. k + 1) (sym (depth_other Passed before refl refl)))
