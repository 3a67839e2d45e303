-- The children behind one of them, by the numbers of rows.
use Rattle.std.proofs.Common.{◌≡◌, refl, sym, ap, ◌∙◌, ℕ, suc, ◌+◌, ◌-◌, ◌<◌, ◌≤◌, List, [], ◌∷◌, ◌++◌, length, filter, Bool, true, false, cond, ◌&&◌, arith, append-nil, Option, Some, None}
use Rattle.std.proofs.lemmas.Bool.{and_parts, false≢true}
use Rattle.std.proofs.lemmas.List.{append_cancel_left, append_cancel_right}
use Rattle.axis_walkers.specs.Streams.{given_to, StandsTo}
use Rattle.doc_laws.proofs.Numbers.{filter_nothing, filter-split, after_of, one_more, filter_none_no}
use Rattle.doc_laws.proofs.Selected.{member_of_filter, member_if_passes}
use Rattle.doc_model.specs.declared.node_test.Test.{Test}
use Rattle.doc_model.specs.declared.row.Axis.TheVariants as axis
use Rattle.doc_model.specs.declared.row.Kind.TheVariants.{Element}
use Rattle.doc_model.specs.declared.row.Row.{Row}
use Rattle.doc_model.specs.declared.strip_rule.StripRule.{StripRule}
use Rattle.doc_model.specs.Axes.{is_selected, axis_rows}
use Rattle.doc_model.specs.Document.{is_member}
use Rattle.doc_model.specs.NodeTests.{meets}
use Rattle.doc_model.specs.Relations.{numbers, is_child}
use Rattle.doc_model.specs.Rows.{row_at}
use Rattle.doc_model.specs.Shown.{is_shown, shown_below, shown_of}
use Rattle.doc_model.specs.Strip.{is_visible}
use Rattle.xpath_core.specs.Left.{behind_node, most_of}

-- a node and those behind it, or those alone
abbrev pub node_if : Bool → ℕ → List ℕ → List ℕ
node_if true n ns = n ∷ ns
node_if false n ns = ns

-- ---- numbers

-- none of which it holds between two ends up to which the same numbers are found
none_between : (f : ℕ → Bool) (a b : ℕ) → a ≤ b → filter f (numbers 0 b) ≡ filter f (numbers 0 a) → (j : ℕ) → a ≤ j → j < b → f j ≡ false
none_between f a b l e j x y =
    let split : filter f (numbers 0 b) ≡ filter f (numbers 0 a) ++ filter f (numbers a (b - a)) =
    ap (λ k. filter f (numbers 0 k)) (let s : b ≡ a + (b - a) = omega arith in s) ∙ filter-split f 0 a (b - a)
    ∙ ap (λ n. filter f (numbers 0 a) ++ filter f (numbers n (b - a))) (let z : 0 + a ≡ a = omega arith in z) in
    let none : filter f (numbers a (b - a)) ≡ [] = append_cancel_left (filter f (numbers 0 a)) (filter f (numbers a (b - a))) [] (sym split ∙ e ∙ sym (append-nil (filter f (numbers 0 a)))) in
    filter_none_no f a (b - a) j none x (omega arith)

-- the numbers behind one, where those up to the next are none
next_number : (g : ℕ → Bool) (a k c : ℕ) → a ≤ k → k < c → ((j : ℕ) → a ≤ j → j < k → g j ≡ false) → filter g (numbers a (c - a)) ≡ node_if (g k) k (filter g (numbers (suc k) (c - suc k)))
next_number g a k c l h none =
    ap (λ n. filter g (numbers a n)) (let s : c - a ≡ (k - a) + suc (c - suc k) = omega arith in s)
    ∙ filter-split g a (k - a) (suc (c - suc k))
    ∙ ap (λ xs. xs ++ filter g (numbers (a + (k - a)) (suc (c - suc k)))) (filter_nothing g a (k - a) (λ j x y. none j x (omega arith)))
    ∙ ap (λ n. filter g (numbers n (suc (c - suc k)))) (let s : a + (k - a) ≡ k = omega arith in s)
    ∙ by (g k)
  where
    by : (b : Bool) → cond b (k ∷ filter g (numbers (suc k) (c - suc k))) (filter g (numbers (suc k) (c - suc k))) ≡ node_if b k (filter g (numbers (suc k) (c - suc k)))
    by true = refl
    by false = refl

-- ---- children

selected_shown : (rules : List StripRule) (rows : List Row) (n : ℕ) (test : Test) (j : ℕ) → is_shown rules rows n j ≡ false → is_selected rules rows n axis.Child test j ≡ false
selected_shown rules rows n test j e = by (is_visible rules rows j) (meets Element test (row_at rows j)) (is_child rows n j) e
  where
    by : (v m k : Bool) → (v && k) ≡ false → (v && (m && k)) ≡ false
    by true true k e = e
    by true false k e = refl
    by false m k e = refl

selected_meets : (rules : List StripRule) (rows : List Row) (n : ℕ) (test : Test) (j : ℕ) → is_shown rules rows n j ≡ true
    → is_selected rules rows n axis.Child test j ≡ meets Element test (row_at rows j)
selected_meets rules rows n test j e = by (is_visible rules rows j) (meets Element test (row_at rows j)) (is_child rows n j) (and_parts _ _ e).0 (and_parts _ _ e).1
  where
    by : (v m k : Bool) → v ≡ true → k ≡ true → (v && (m && k)) ≡ m
    by true true true v k = refl
    by true false true v k = refl
    by true m false v k = absurd (false≢true k)
    by false m k v h = absurd (false≢true v)

-- the children that meet a test
abbrev pub kids : List StripRule → List Row → ℕ → Test → List ℕ
kids rules rows n test = axis_rows rules rows n axis.Child test

given_is : (rules : List StripRule) (rows : List Row) (n : ℕ) (last : Option ℕ) → given_to rules rows n last ≡ shown_below rules rows n (most_of last)
given_is rules rows n None = refl
given_is rules rows n (Some k) = refl

most_within : (rules : List StripRule) (rows : List Row) (n : ℕ) (last : Option ℕ) → StandsTo rules rows n last → most_of last ≤ length rows
most_within rules rows n None s = omega arith
most_within rules rows n (Some k) s = let l = s.0 in omega (arith, l)

behind_is : (rules : List StripRule) (rows : List Row) (n : ℕ) (test : Test) (last : Option ℕ) → StandsTo rules rows n last
    → behind_node last (kids rules rows n test) ≡ filter (is_selected rules rows n axis.Child test) (numbers (most_of last) (length rows - most_of last))
behind_is rules rows n test None s = ap (λ k. filter (is_selected rules rows n axis.Child test) (numbers 0 k)) (let e : length rows ≡ length rows - 0 = omega arith in e)
behind_is rules rows n test (Some k) s = after_of (is_selected rules rows n axis.Child test) k (length rows) s.0

-- all were given
pub none_behind : (rules : List StripRule) (rows : List Row) (n : ℕ) (test : Test) (last : Option ℕ) → StandsTo rules rows n last
    → given_to rules rows n last ≡ shown_of rules rows n → behind_node last (kids rules rows n test) ≡ []
none_behind rules rows n test last s e =
    let l = most_within rules rows n last s in
    behind_is rules rows n test last s
    ∙ filter_nothing (is_selected rules rows n axis.Child test) (most_of last) (length rows - most_of last)
    (λ j x y. selected_shown rules rows n test j (none_between (is_shown rules rows n) (most_of last) (length rows) l (sym e ∙ given_is rules rows n last) j x (omega (arith, l, y))))

-- the one that was given last is among those that were given
last_before : (rules : List StripRule) (rows : List Row) (n : ℕ) (last : Option ℕ) (k : ℕ) → StandsTo rules rows n last
    → shown_below rules rows n k ≡ shown_below rules rows n (most_of last) → most_of last ≤ k
last_before rules rows n None k s e = omega arith
last_before rules rows n (Some l) k s e =
    let m = member_if_passes (is_shown rules rows n) 0 (suc l) l (omega arith) (omega arith) s.1 in
    let r = member_of_filter (is_shown rules rows n) 0 k l (ap (is_member l) e ∙ m) in
    let h = r.1 in omega (arith, h)

-- one more was given
up_to : (rules : List StripRule) (rows : List Row) (n : ℕ) (last : Option ℕ) (k : ℕ) → StandsTo rules rows n (Some k)
    → given_to rules rows n (Some k) ≡ given_to rules rows n last ++ k ∷ [] → shown_below rules rows n k ≡ shown_below rules rows n (most_of last)
up_to rules rows n last k t e =
    append_cancel_right (shown_below rules rows n k) (shown_below rules rows n (most_of last)) (k ∷ [])
    (sym (one_more (is_shown rules rows n) k t.1) ∙ e ∙ ap (λ xs. xs ++ k ∷ []) (given_is rules rows n last))

pub given_more : (rules : List StripRule) (rows : List Row) (n : ℕ) (last : Option ℕ) (k : ℕ) → StandsTo rules rows n last → StandsTo rules rows n (Some k)
    → given_to rules rows n (Some k) ≡ given_to rules rows n last ++ k ∷ [] → most_of last < suc k
given_more rules rows n last k s t e = let l = last_before rules rows n last k s (up_to rules rows n last k t e) in omega (arith, l)

pub next_behind : (rules : List StripRule) (rows : List Row) (n : ℕ) (test : Test) (last : Option ℕ) (k : ℕ) → StandsTo rules rows n last → StandsTo rules rows n (Some k)
    → given_to rules rows n (Some k) ≡ given_to rules rows n last ++ k ∷ []
    → behind_node last (kids rules rows n test) ≡ node_if (meets Element test (row_at rows k)) k (behind_node (Some k) (kids rules rows n test))
next_behind rules rows n test last k s t e =
    let g : ℕ → Bool = is_selected rules rows n axis.Child test in
    let same = up_to rules rows n last k t e in
    let l = last_before rules rows n last k s same in
    behind_is rules rows n test last s
    ∙ next_number g (most_of last) k (length rows) l t.0 (λ j x y. selected_shown rules rows n test j (none_between (is_shown rules rows n) (most_of last) k l same j x y))
    ∙ ap (λ b. node_if b k (filter g (numbers (suc k) (length rows - suc k)))) (selected_meets rules rows n test k t.1)
    ∙ ap (node_if (meets Element test (row_at rows k)) k) (sym (behind_is rules rows n test (Some k) t))
