-- What is answered stays, on every growth that is lawful.
use Rattle.std.proofs.Common.{◌≡◌, ℕ, suc, ◌+◌, ◌-◌, ◌<◌, Bool, true, false, cond, not, ltb, List, [], ◌∷◌, ◌++◌, length, Option, Some, None, drop, filter, refl, ap, sym, ◌∙◌, subst, arith, length-append, append-nil, inl, inr, ◌⊎◌}
use Rattle.std.proofs.lemmas.Bool.{and_right, cases_Bool, cases_eq, ne_eqb, not-true, false≢true}
use Rattle.std.proofs.lemmas.List.{drop-append-le}
use Rattle.std.proofs.lemmas.List.Elements.{filter-append}
use Rattle.doc_laws.proofs.Standing.{standing_plain}
use Rattle.doc_model.specs.declared.row.Row.{Row}
use Rattle.doc_model.specs.declared.step.Step.{Step}
use Rattle.doc_model.specs.declared.step.Step.TheVariants.{Node, Shut, End}
use Rattle.doc_model.specs.declared.strip_rule.StripRule.{StripRule}
use Rattle.doc_model.specs.Document.{Document, start, after, document_from, document_of, is_attribute, is_member, is_open}
use Rattle.doc_model.specs.Lawful.{CanJoin, LawfulFrom, IsLawful, Grows, IsJoined}
use Rattle.doc_model.specs.Relations.{numbers, first_of, last_of, is_child, parent_of, sibling_parent, attribute_run, attr_count_of}
use Rattle.doc_model.specs.Rows.{row_at, rows_of, rows_given}
use Rattle.doc_model.specs.Shown.{is_shown, shown_of, first_shown, next_shown_in, next_shown, prev_shown_in, prev_shown}
use Rattle.doc_model.specs.Strip.{is_visible}
use Rattle.doc_model.specs.View.{is_settled}
use Rattle.doc_laws.specs.Stays.{DataStay, LinksStay}
use Rattle.doc_laws.proofs.Numbers.{filter_nothing, filter-split, first_of-append}
use Rattle.doc_laws.proofs.Growth.{document_of-append, row_at_grows, parent_grows, rows-append}
use Rattle.doc_laws.proofs.Stack.{StackOf}
use Rattle.doc_laws.proofs.Links.{parent_before, is_child_new, is_child_attribute}
use Rattle.doc_laws.proofs.Ends.{IsReached, reached, reached_after, lawful_split, IsClosed, closed_after, shut_grows}
use Rattle.doc_laws.proofs.Prevs.{run_stops}
use Rattle.doc_laws.proofs.Visible.{visible_grows, shown_below_grows}

pub sibling_parent_later : (rows more : List Row) (k : ℕ) → k < length rows → sibling_parent (rows ++ more) k ≡ sibling_parent rows k
sibling_parent_later rows more k l =
    ap (λ (r : Row). cond (is_attribute r.kind) None (parent_of (rows ++ more) k)) (row_at_grows rows more k l)
    ∙ ap (λ p. cond (is_attribute (row_at rows k).kind) None p) (parent_grows rows more k l)

prev_among : (rules : List StripRule) (rows more : List Row) (k : ℕ) → k < length rows → (o : Option ℕ) → prev_shown_in rules (rows ++ more) k o ≡ prev_shown_in rules rows k o
prev_among rules rows more k l None = refl
prev_among rules rows more k l (Some n) = ap last_of (shown_below_grows rules rows more n k (omega arith))

plain_node : (opened : List ℕ) (row : Row) (attributes : List Row) → CanJoin opened row attributes → is_attribute row.kind ≡ false
plain_node opened row attributes j = standing_plain row.kind j.kind

-- the rows that further steps give begin with one that is no attribute
pub record Begins (rows : List Row) : Type 0 where
  pub row : Row
  pub rest : List Row
  pub is : rows ≡ row ∷ rest
  pub plain : is_attribute row.kind ≡ false

pub given_begins : (s : Document) (p : List Step) → LawfulFrom s p → (rows_given p ≡ []) ⊎ Begins (rows_given p)
given_begins s [] l = inl refl
given_begins s (Node row attributes ∷ p) l = inr (record { row = row; rest = attributes ++ rows_given p; is = refl; plain = plain_node s.opened row attributes l.1 })
given_begins s (Shut ∷ p) l = given_begins (after s Shut) p l.2
given_begins s (End v ∷ p) l = given_begins (after s (End v)) p l.2

run_later : (rows more : List Row) (n : ℕ) → n < length rows → (more ≡ []) ⊎ Begins more → attribute_run (drop (suc n) (rows ++ more)) ≡ attribute_run (drop (suc n) rows)
run_later rows more n l x = ap attribute_run (drop-append-le (suc n) rows more (omega arith)) ∙ elim x [
  | inl e ↦ ap (λ m. attribute_run (drop (suc n) rows ++ m)) e ∙ ap attribute_run (append-nil (drop (suc n) rows))
  | inr b ↦ ap (λ m. attribute_run (drop (suc n) rows ++ m)) b.is ∙ run_stops (drop (suc n) rows) b.row b.rest b.plain
]

pub data_stay : (rules : List StripRule) (p q : List Step) (n : ℕ) → Grows p q → IsLawful q → IsJoined p n → DataStay rules p q n
data_stay rules p q n g l j =
    let rows : List Row = rows_of p in
    let more : List Row = rows_given (g.0) in
    let e : rows_of q ≡ rows ++ more = ap rows_of (sym g.1) ∙ rows-append p g.0 in
    let split = lawful_split p (g.0) (subst (λ xs. LawfulFrom start xs) (sym (g.1)) l.each) in
    record {
      row = ap (λ rs. row_at rs n) e ∙ row_at_grows rows more n j;
      parent = ap (λ rs. parent_of rs n) e ∙ parent_grows rows more n j;
      prev = ap (λ rs. prev_shown rules rs n) e ∙ ap (prev_shown_in rules (rows ++ more) n) (sibling_parent_later rows more n j) ∙ prev_among rules rows more n j (sibling_parent rows n);
      attr_count =
          ap (λ rs. attr_count_of rs n) e
          ∙ ap (λ (r : Row). cond (is_attribute r.kind) 0 (attribute_run (drop (suc n) (rows ++ more)))) (row_at_grows rows more n j)
          ∙ ap (λ k. cond (is_attribute (row_at rows n).kind) 0 k) (run_later rows more n j (given_begins (document_of p) (g.0) split.1));
      visible = ap (λ rs. is_visible rules rs n) e ∙ visible_grows rules rows more n j;
    }

-- visible children among more rows: those among the first, and then others
shown-append : (rules : List StripRule) (rows more : List Row) (n : ℕ) → (rest : List ℕ) × (shown_of rules (rows ++ more) n ≡ shown_of rules rows n ++ rest)
shown-append rules rows more n =
    let f : ℕ → Bool = is_shown rules (rows ++ more) n in
    let c : ℕ = length rows in (
      filter f (numbers (0 + c) (length more)),
      ap (λ j. filter f (numbers 0 j)) (length-append rows more) ∙ filter-split f 0 c (length more) ∙ ap (λ xs. xs ++ filter f (numbers (0 + c) (length more))) (shown_below_grows rules rows more n c (omega arith)),
    )

first_stays : (rules : List StripRule) (rows more : List Row) (n k : ℕ) → first_shown rules rows n ≡ Some k → first_shown rules (rows ++ more) n ≡ Some k
first_stays rules rows more n k h = let s = shown-append rules rows more n in ap first_of s.1 ∙ first_of-append (shown_of rules rows n) s.0 k h

next_among_stays : (rules : List StripRule) (rows more : List Row) (m k : ℕ) (o : Option ℕ) → next_shown_in rules rows m o ≡ Some k → next_shown_in rules (rows ++ more) m o ≡ Some k
next_among_stays rules rows more m k None h = h
next_among_stays rules rows more m k (Some n) h =
    let s = shown-append rules rows more n in
    ap (λ xs. first_of (filter (ltb m) xs)) s.1 ∙ ap first_of (filter-append (ltb m) (shown_of rules rows n) s.0) ∙ first_of-append (filter (ltb m) (shown_of rules rows n)) (filter (ltb m) s.0) k h

-- a row that is not open gets no further child
shown_join : (rules : List StripRule) (rows : List Row) (opened : List ℕ) (row : Row) (attributes : List Row) (n : ℕ) → StackOf rows opened → 0 < length opened → CanJoin opened row attributes → is_member n opened ≡ false → shown_of rules (rows ++ row ∷ attributes) n ≡ shown_of rules rows n
shown_join rules rows [] row attributes n s z j m = absurd (omega arith)
shown_join rules rows (o ∷ os) row attributes n s z j m =
    let all : List Row = rows ++ row ∷ attributes in
    let f : ℕ → Bool = is_shown rules all n in
    let c : ℕ = length rows in
    let ne : o ≡ n → ⊥ = λ (e : o ≡ n). false≢true (sym m ∙ same o n os e) in
    let none : filter f (numbers (0 + c) (suc (length attributes))) ≡ [] = filter_nothing f (0 + c) (suc (length attributes)) (λ k a b.
    and_right (is_visible rules all k) (is_child all n k) (elim (cases_eq k c) [
      | inl e ↦ ap (is_child all n) e ∙ is_child_new rows o os row attributes s j n ∙ ne_eqb o n ne
      | inr far ↦
          let e : c + suc (k - suc c) ≡ k = omega arith in
          sym (ap (is_child all n) e) ∙ is_child_attribute rows o os row attributes s j n (k - suc c) (omega arith)
    ])) in
    ap (λ i. filter f (numbers 0 i)) (length-append rows (row ∷ attributes)) ∙ filter-split f 0 c (suc (length attributes))
    ∙ ap (λ xs. xs ++ filter f (numbers (0 + c) (suc (length attributes)))) (shown_below_grows rules rows (row ∷ attributes) n c (omega arith))
    ∙ ap (λ xs. shown_of rules rows n ++ xs) none ∙ append-nil (shown_of rules rows n)
  where
    same : (o n : ℕ) (os : List ℕ) → o ≡ n → is_member n (o ∷ os) ≡ true
    same o n os e = ap (λ k. is_member k (o ∷ os)) (sym e) ∙ at o os
      where
        at : (o : ℕ) (os : List ℕ) → is_member o (o ∷ os) ≡ true
        at o os = grind arith

kids_stay : (rules : List StripRule) (s : Document) (p : List Step) (n e : ℕ) → IsReached s → LawfulFrom s p → IsClosed s n e → shown_of rules (document_from s p).rows n ≡ shown_of rules s.rows n
kids_stay rules s [] n e r l h = refl
kids_stay rules s (Node row attributes ∷ p) n e r l h =
    let x : Step = Node row attributes in
    kids_stay rules (after s x) p n e (reached_after s x r l.1) l.2 (closed_after s x n e r l.0 l.1 h) ∙ shown_join rules s.rows s.opened row attributes n r.stack (r.going l.0) l.1 h.closed
kids_stay rules s (Shut ∷ p) n e r l h = kids_stay rules (after s Shut) p n e (reached_after s Shut r l.1) l.2 (closed_after s Shut n e r l.0 l.1 h)
kids_stay rules s (End v ∷ p) n e r l h = kids_stay rules (after s (End v)) p n e (reached_after s (End v) r l.1) l.2 (closed_after s (End v) n e r l.0 l.1 h)

pub shown_stays : (rules : List StripRule) (p q : List Step) (n : ℕ) → Grows p q → IsLawful q → IsJoined p n → is_open p n ≡ false → shown_of rules (rows_of q) n ≡ shown_of rules (rows_of p) n
shown_stays rules p q n g l j c =
    let split = lawful_split p (g.0) (subst (λ xs. LawfulFrom start xs) (sym (g.1)) l.each) in
    let e : document_of q ≡ document_from (document_of p) (g.0) = ap document_of (sym (g.1)) ∙ document_of-append p (g.0) in
    ap (λ (s : Document). shown_of rules s.rows n) e ∙ kids_stay rules (document_of p) (g.0) n _ (reached p split.0) split.1 (record { joined = j; closed = c; extent = refl })

pub links_stay : (rules : List StripRule) (p q : List Step) (n : ℕ) → Grows p q → IsLawful q → IsJoined p n → LinksStay rules p q n
links_stay rules p q n g l j =
    let rows : List Row = rows_of p in
    let more : List Row = rows_given (g.0) in
    let e : rows_of q ≡ rows ++ more = ap rows_of (sym g.1) ∙ rows-append p g.0 in
    let up : sibling_parent (rows_of q) n ≡ sibling_parent rows n = ap (λ rs. sibling_parent rs n) e ∙ sibling_parent_later rows more n j in
    record {
      first = record {
        node = λ k h. ap (λ rs. first_shown rules rs n) e ∙ first_stays rules rows more n k h;
        nothing = λ h s.
            let c = not-true (is_open p n) s in
            (ap first_of (shown_stays rules p q n g l j c) ∙ h, ap not (shut_grows p q n g l j c).0);
      };
      next = record {
        node = λ k h. ap (λ rs. next_shown rules rs n) e ∙ ap (next_shown_in rules (rows ++ more) n) (sibling_parent_later rows more n j) ∙ next_among_stays rules rows more n k (sibling_parent rows n) h;
        nothing = λ h s.
            let r = no_more (sibling_parent rows n) (parent_bound (rows_of p) n j) h s in
            (ap (next_shown_in rules (rows_of q) n) up ∙ r.0, ap (is_settled q) up ∙ r.1);
      };
      extent = λ c. shut_grows p q n g l j c;
    }
  where
    parent_bound : (rows : List Row) (n : ℕ) → n < length rows → (m : ℕ) → sibling_parent rows n ≡ Some m → m < length rows
    parent_bound rows n j m h = elim (cases_Bool (is_attribute (row_at rows n).kind)) [
      | inl e ↦ absurd (no (sym (ap (λ b. cond b None (parent_of rows n)) e) ∙ h))
      | inr e ↦ (parent_before rows n m (sym (ap (λ b. cond b None (parent_of rows n)) e) ∙ h)).1
    ]
      where
        no : None ≡ Some m → ⊥
        no e = cc

    no_more : (o : Option ℕ) → ((m : ℕ) → o ≡ Some m → m < length (rows_of p)) → next_shown_in rules (rows_of p) n o ≡ None → is_settled p o ≡ true → (next_shown_in rules (rows_of q) n o ≡ None) × (is_settled q o ≡ true)
    no_more None b h s = (refl, refl)
    no_more (Some m) b h s =
        let c = not-true (is_open p m) s in
        let i = b m refl in
        (ap (λ xs. first_of (filter (ltb n) xs)) (shown_stays rules p q m g l i c) ∙ h, ap not (shut_grows p q m g l i c).0)
