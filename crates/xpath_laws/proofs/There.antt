-- What is read of a lawful list tells of rows that are there, and waits only for rows that are open.
use Rattle.std.proofs.Common.{◌≡◌, refl, sym, ap, ◌∙◌, subst, not, ℕ, ◌+◌, ◌<◌, List, [], ◌∷◌, length, filter, Bool, true, false, cond, ◌&&◌, ◌||◌}
use Rattle.std.proofs.Common.{ltb, eqb, zero, suc, Option, Some, None, arith, inl, inr}
use Rattle.std.proofs.lemmas.Bool.{cases_Bool, lt-ltb, ltb-true, and_parts, and_left, and_right, eq-eqb, eqb-true, false≢true}
use Rattle.std.specs.List.{list_any}
use Rattle.doc_model.specs.declared.node_test.Test.{Test}
use Rattle.doc_model.specs.declared.row.Axis.{Axis}
use Rattle.doc_model.specs.declared.row.Axis.TheVariants as axis
use Rattle.doc_model.specs.declared.row.Row.{Row}
use Rattle.doc_model.specs.declared.step.Step.{Step}
use Rattle.doc_model.specs.declared.strip_rule.StripRule.{StripRule}
use Rattle.doc_model.specs.Answers.{Answer, Known, Fault, Open, with_faults, once_shut, once_joined}
use Rattle.doc_model.specs.Axes.{is_selected, axis_rows, axis_of, need_of, is_attribute_of}
use Rattle.doc_model.specs.Document.{is_open, is_member, is_parent, is_attribute}
use Rattle.doc_model.specs.Lawful.{IsJoined}
use Rattle.doc_model.specs.declared.row.Kind.{Kind}
use Rattle.doc_model.specs.declared.row.Kind.TheVariants as kind
use Rattle.doc_model.specs.Relations.{numbers, parent_of}
use Rattle.doc_model.specs.Rows.{rows_of, row_at}
use Rattle.doc_model.specs.Strip.{is_visible, is_text, is_blank, all_white, strips, row_or_root}
use Rattle.sheet_ast.specs.declared.sheet.KeyDecl.{KeyDecl}
use Rattle.doc_model.specs.Values.{string_value_of, value_need, value_in}
use Rattle.doc_laws.proofs.Kids.{is_some_of-true}
use Rattle.doc_laws.proofs.Parents.{parent_is}
use Rattle.doc_laws.proofs.Selected.{axis_members, member_of_filter}
use Rattle.xpath_meaning.specs.Evaluation.{evaluation_of}
use Rattle.xpath_meaning.specs.Functions.{texts_of}
use Rattle.xpath_meaning.specs.Keys.{is_id, has_id, first_alone, id_rows, id_nodes_of, declarations, alone, strings_by, strings_of, has_string, visible_rows, key_nodes_of}
use Rattle.xpath_meaning.specs.Match.{match_of}
use Rattle.xpath_meaning.specs.Outcome.{Outcome, each_of}
use Rattle.xpath_meaning.specs.Reading.{Reading}
use Rattle.xpath_meaning.specs.Readings.{children_so_far, row_so_far, reading_without_keys, reading_of}
use Rattle.xpath_laws.specs.Sound.{Rows, Tells, Anything, Each, Flows, IsReading, IsValue, IsThere, IsOpen}
use Rattle.xpath_laws.proofs.Tells.{each_by_members, bind_tells, if_tells, each_tells, kept_tells, Left}
use Rattle.xpath_laws.proofs.Order.{or_cases, or_right}
use Rattle.xpath_laws.proofs.Reading.{children_there}
use Rattle.xpath_laws.proofs.Says.{texts_told, each_anything}
use Rattle.xpath_laws.proofs.Trees.{evaluation_told}
use Rattle.xpath_laws.proofs.Patterns.{match_told}

shut_told : (steps : List Step) {A : Type 0} (V : A → Type 0) (need : Option ℕ) (y : A) → V y → Tells (IsOpen steps) V (with_faults (once_shut steps need y))
shut_told steps V None y v = v
shut_told steps V (Some m) y v = by_open (is_open steps m) refl
  where
    by_open : (b : Bool) → is_open steps m ≡ b → Tells (IsOpen steps) V (with_faults (cond b (Open m) (Known y)))
    by_open true e = e
    by_open false e = v

joined_told : (steps : List Step) {A : Type 0} (V : A → Type 0) (n : ℕ) (a : Answer ⊥ A) → IsJoined steps n → Tells (IsOpen steps) V (with_faults a)
    → Tells (IsOpen steps) V (with_faults (once_joined steps n a))
joined_told steps V n a j s = subst (λ b. Tells (IsOpen steps) V (with_faults (cond b a (Open n)))) (sym (lt-ltb n (length (rows_of steps)) j)) s

selected_there : (rules : List StripRule) (steps : List Step) (n : ℕ) (axis : Axis) (test : Test) → Each (IsThere rules steps) (axis_rows rules (rows_of steps) n axis test)
selected_there rules steps n axis test = each_by_members (IsThere rules steps) (axis_rows rules (rows_of steps) n axis test)
    (λ k m.
    let p = and_parts (ltb k (length (rows_of steps))) (is_selected rules (rows_of steps) n axis test k) (sym (axis_members rules (rows_of steps) n axis test k) ∙ m) in
    (ltb-true k (length (rows_of steps)) p.0, (and_parts (is_visible rules (rows_of steps) k) _ p.1).0))

pub axis_there : (rules : List StripRule) (steps : List Step) (axis : Axis) (test : Test) (n : ℕ) → IsThere rules steps n
    → Tells (IsOpen steps) (Each (IsThere rules steps)) (with_faults (axis_of rules steps n axis test))
axis_there rules steps axis test n t =
    joined_told steps (Each (IsThere rules steps)) n _ t.0
    (shut_told steps (Each (IsThere rules steps)) (need_of axis (rows_of steps) n) (axis_rows rules (rows_of steps) n axis test) (selected_there rules steps n axis test))

pub value_there : (rules : List StripRule) (steps : List Step) (n : ℕ) → IsThere rules steps n → Tells (IsOpen steps) Anything (with_faults (string_value_of rules steps n))
value_there rules steps n t = joined_told steps Anything n _ t.0 (shut_told steps Anything (value_need (rows_of steps) n) (value_in rules (rows_of steps) n) tt)

row_there : (rules : List StripRule) (steps : List Step) (n : ℕ) → IsThere rules steps n → Tells (IsOpen steps) Anything (row_so_far steps n)
row_there rules steps n t = subst (λ b. Tells (IsOpen steps) Anything (cond b (Known (row_at (rows_of steps) n)) (Open n))) (sym (lt-ltb n (length (rows_of steps)) t.0)) tt

children_flow : (rules : List StripRule) (steps : List Step) (test : Test) (n : ℕ) → IsThere rules steps n → Flows (IsThere rules steps) (IsOpen steps) (children_so_far rules steps test n)
children_flow rules steps test n t = by_open (is_open steps n) refl
  where
    by_open : (o : Bool) → is_open steps n ≡ o → Flows (IsThere rules steps) (IsOpen steps) (children_so_far rules steps test n)
    by_open true e = subst (Flows (IsThere rules steps) (IsOpen steps)) (sym (children_there rules steps test n true t.0 e))
        (record { items = selected_there rules steps n axis.Child test; ending = e })
    by_open false e = subst (Flows (IsThere rules steps) (IsOpen steps)) (sym (children_there rules steps test n false t.0 e))
        (record { items = selected_there rules steps n axis.Child test; ending = tt })

-- only a text may be hidden
pub no_text : (k : Kind) → is_parent k ≡ true → is_text k ≡ false
no_text kind.Root e = refl
no_text kind.Element e = refl
no_text kind.Attribute e = absurd (false≢true e)
no_text kind.Text e = absurd (false≢true e)
no_text kind.Instruction e = absurd (false≢true e)
no_text kind.Comment e = absurd (false≢true e)

pub seen_if_no_text : (rules : List StripRule) (rows : List Row) (k : ℕ) → is_text (row_at rows k).kind ≡ false → is_visible rules rows k ≡ true
seen_if_no_text rules rows k e =
    ap not (and_right (strips rules (row_or_root rows (parent_of rows k))) _ (and_left (is_blank (row_at rows k)) _ (and_left (is_text (row_at rows k).kind) (all_white (row_at rows k).value) e)))

root_there : (rules : List StripRule) (steps : List Step) → IsThere rules steps 0
root_there rules steps = (omega arith, seen_if_no_text rules (rows_of steps) 0 refl)

number_below : (k count : ℕ) → is_member k (numbers 0 count) ≡ true → k < count
number_below k count m = let b = below 0 count m in omega (arith, b)
  where
    below : (a c : ℕ) → is_member k (numbers a c) ≡ true → k < a + c
    below a zero h = absurd (false≢true h)
    below a (suc c) h = elim (or_cases (eqb k a) (is_member k (numbers (suc a) c)) h) [
      | inl e ↦ let same = eqb-true k a e in omega (arith, same)
      | inr m ↦ let b = below (suc a) c m in omega (arith, b)
    ]

some_of : (f : ℕ → Bool) (ks : List ℕ) → list_any f ks ≡ true → (k : ℕ) × (is_member k ks ≡ true) × (f k ≡ true)
some_of f [] e = absurd (false≢true e)
some_of f (k ∷ ks) e = elim (cases_Bool (f k)) [
  | inl h ↦ (k, ap (λ b. b || is_member k ks) (eq-eqb k k refl), h)
  | inr h ↦ let r = some_of f ks (ap (λ b. b || list_any f ks) (sym h) ∙ e) in (r.0, or_right (eqb (r.0) k) (is_member (r.0) ks) r.1, r.2)
]

parent_seen : (rules : List StripRule) (rows : List Row) (n k : ℕ) → k < length rows → is_attribute_of rows n k ≡ true → is_visible rules rows n ≡ true
parent_seen rules rows n k l e =
    let up = is_some_of-true (parent_of rows k) n (and_parts (is_attribute (row_at rows k).kind) _ e).1 in
    let above = (parent_is rows k n l up).above in
    seen_if_no_text rules rows n (no_text (row_at rows n).kind (and_parts (is_parent (row_at rows n).kind) _ above).0)

has_id_there : (rules : List StripRule) (steps : List Step) (name value : List ℕ) (n : ℕ) → n < length (rows_of steps) → has_id (rows_of steps) name value n ≡ true → IsThere rules steps n
has_id_there rules steps name value n l e =
    let s = some_of (λ k. is_attribute_of (rows_of steps) n k && is_id (rows_of steps) name value k) (numbers 0 (length (rows_of steps))) e in
    (l, parent_seen rules (rows_of steps) n (s.0) (number_below (s.0) (length (rows_of steps)) s.1) (and_parts (is_attribute_of (rows_of steps) n (s.0)) _ s.2).0)

first_alone_each : (T : Rows) (ns : List ℕ) → Each T ns → Each T (first_alone ns)
first_alone_each T [] a = tt
first_alone_each T (n ∷ ns) a = (a.0, tt)

filtered_there : (T : Rows) (f : ℕ → Bool) (count : ℕ) → ((k : ℕ) → k < count → f k ≡ true → T k) → Each T (filter f (numbers 0 count))
filtered_there T f count h = each_by_members T (filter f (numbers 0 count)) (λ k m. let r = member_of_filter f 0 count k m in h k (let b = r.1 in omega (arith, b)) r.2)

id_rows_there : (rules : List StripRule) (steps : List Step) (id : Option (List ℕ)) (value : List ℕ) → Each (IsThere rules steps) (id_rows id (rows_of steps) value)
id_rows_there rules steps None value = tt
id_rows_there rules steps (Some name) value =
    first_alone_each (IsThere rules steps) _ (filtered_there (IsThere rules steps) (has_id (rows_of steps) name value) (length (rows_of steps)) (has_id_there rules steps name value))

id_there : (rules : List StripRule) (steps : List Step) (id : Option (List ℕ)) (value : List ℕ) → Tells (IsOpen steps) (Each (IsThere rules steps)) (id_nodes_of id steps value)
id_there rules steps id value = shut_told steps (Each (IsThere rules steps)) (Some 0) (id_rows id (rows_of steps) value) (id_rows_there rules steps id value)

pub without_keys_told : (rules : List StripRule) (id : Option (List ℕ)) (steps : List Step) → IsReading (IsThere rules steps) (IsOpen steps) (reading_without_keys rules id steps)
unfolding reading_without_keys
without_keys_told rules id steps = record {
  root = root_there rules steps;
  axis = λ axis test n t. axis_there rules steps axis test n t;
  children = λ test n t. children_flow rules steps test n t;
  row = λ n t. row_there rules steps n t;
  value = λ n t. value_there rules steps n t;
  whole = shut_told steps Anything (Some 0) tt tt;
  by_key = λ key value. tt;
  by_id = λ value. id_there rules steps id value;
}

module _ (T O : Rows) (R : Reading) (x : IsReading T O R) where
  strings_by_told : (n : ℕ) → T n → (key : KeyDecl) → Tells O Anything (strings_by R n key)
  strings_by_told n t key =
      bind_tells O Anything Anything (match_of R key.matches n) _ (match_told T O R x key.matches n t)
      (λ matches a. if_tells O Anything matches _ _
      (bind_tells O (IsValue T) Anything (evaluation_of R key.value [] (alone n)) (texts_of R)
      (evaluation_told T O R key.value [] (alone n) x tt (record { node = t; current = t })) (texts_told T O R x)) tt)

  has_string_told : (keys : List KeyDecl) (value : List ℕ) (n : ℕ) → T n → Tells O Anything (has_string R keys value n)
  has_string_told keys value n t =
      bind_tells O Anything Anything (strings_of R keys n) _
      (bind_tells O (Each Anything) Anything (each_of (strings_by R n) keys) _
      (each_tells O Anything Anything (strings_by R n) keys (each_anything keys) (λ key a. strings_by_told n t key)) (λ lists a. tt)) (λ strings a. tt)

  each_left : (nodes : List ℕ) (o : Outcome (List ℕ)) → Tells O (Left T nodes) o → Tells O (Each T) o
  each_left nodes (Known ks) s = s.each
  each_left nodes (Fault e) s = tt
  each_left nodes (Open m) s = s

key_there : (rules : List StripRule) (keys : List KeyDecl) (id : Option (List ℕ)) (steps : List Step) (key : ℕ) (value : List ℕ)
    → Tells (IsOpen steps) (Each (IsThere rules steps)) (key_nodes_of (reading_without_keys rules id steps) rules keys steps key value)
key_there rules keys id steps key value =
    let T : ℕ → Type 0 = IsThere rules steps in
    let O : ℕ → Type 0 = IsOpen steps in
    let R = reading_without_keys rules id steps in
    let x = without_keys_told rules id steps in
    bind_tells O (Each T) (Each T) _ _
    (shut_told steps (Each T) (Some 0) (visible_rows rules (rows_of steps)) (filtered_there T (is_visible rules (rows_of steps)) (length (rows_of steps)) (λ k l v. (l, v))))
    (λ rows a. each_left T O R x rows _ (kept_tells O T 0 (λ at n. has_string R (declarations keys key) value n) rows a (λ at n t. has_string_told T O R x (declarations keys key) value n t)))

pub reading_told : (rules : List StripRule) (keys : List KeyDecl) (id : Option (List ℕ)) (steps : List Step) → IsReading (IsThere rules steps) (IsOpen steps) (reading_of rules keys id steps)
unfolding reading_of
reading_told rules keys id steps = record {
  root = root_there rules steps;
  axis = λ axis test n t. axis_there rules steps axis test n t;
  children = λ test n t. children_flow rules steps test n t;
  row = λ n t. row_there rules steps n t;
  value = λ n t. value_there rules steps n t;
  whole = shut_told steps Anything (Some 0) tt tt;
  by_key = λ key value. key_there rules keys id steps key value;
  by_id = λ value. id_there rules steps id value;
}
