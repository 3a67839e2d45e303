-- A string-value that is known stays: as the crate of string-values proves it, which does not hand its lemma on.
use Rattle.std.proofs.Common.{◌≡◌, ℕ, zero, suc, ◌+◌, ◌-◌, ◌<◌, ◌≤◌, Bool, true, false, cond, ◌&&◌, ltb, List, ◌∷◌, ◌++◌, length, filter, flat_map}
use Rattle.std.proofs.Common.{Some, None, refl, ap, sym, ◌∙◌, subst, arith, inl, inr}
use Rattle.std.proofs.lemmas.Bool.{cases_Bool, ltb-true, lt-ltb}
use Rattle.doc_model.specs.declared.row.Row.{Row}
use Rattle.doc_model.specs.declared.step.Step.{Step}
use Rattle.doc_model.specs.declared.strip_rule.StripRule.{StripRule}
use Rattle.doc_model.specs.Answers.{Answer, Known, Open, Stays, Lasts, once_shut}
use Rattle.doc_model.specs.Document.{is_parent, is_open}
use Rattle.doc_model.specs.Lawful.{IsLawful, Grows, IsJoined}
use Rattle.doc_model.specs.Relations.{numbers, extent_of}
use Rattle.doc_model.specs.Rows.{rows_of, row_at}
use Rattle.doc_model.specs.Strip.{is_text, is_visible}
use Rattle.doc_model.specs.Values.{is_shown_text, value_at, texts_below, value_in, value_need, string_value_of}
use Rattle.doc_model.proofs.Texts.{texts_in, texts_below_are}
use Rattle.doc_laws.proofs.Ends.{shut_grows, extent_le}
use Rattle.doc_laws.proofs.Growth.{joined_grows, prefix_rows, row_at_grows}
use Rattle.doc_laws.proofs.Numbers.{filter_same}
use Rattle.doc_laws.proofs.Visible.{visible_grows}

joined_answer : (rules : List StripRule) (steps : List Step) (n : ℕ) → IsJoined steps n
    → string_value_of rules steps n ≡ once_shut steps (value_need (rows_of steps) n) (value_in rules (rows_of steps) n)
joined_answer rules steps n j = ap (λ b. cond b (once_shut steps (value_need (rows_of steps) n) (value_in rules (rows_of steps) n)) (Open n)) (lt-ltb n (length (rows_of steps)) j)

-- of the root or an element that is shut, of one that is open, and of another row
shut_value : (rules : List StripRule) (steps : List Step) (n : ℕ) → IsJoined steps n → is_parent (row_at (rows_of steps) n).kind ≡ true → is_open steps n ≡ false
    → string_value_of rules steps n ≡ Known (texts_below rules (rows_of steps) n)
shut_value rules steps n j p o =
    joined_answer rules steps n j
    ∙ ap (λ b. once_shut steps (cond b (Some n) None) (cond b (texts_below rules (rows_of steps) n) (value_at (rows_of steps) n))) p
    ∙ ap (λ b. cond b (Open n) (Known (texts_below rules (rows_of steps) n))) o

open_value : (rules : List StripRule) (steps : List Step) (n : ℕ) → IsJoined steps n → is_parent (row_at (rows_of steps) n).kind ≡ true → is_open steps n ≡ true
    → string_value_of rules steps n ≡ Open n
open_value rules steps n j p o =
    joined_answer rules steps n j
    ∙ ap (λ b. once_shut steps (cond b (Some n) None) (cond b (texts_below rules (rows_of steps) n) (value_at (rows_of steps) n))) p
    ∙ ap (λ b. cond b (Open n) (Known (texts_below rules (rows_of steps) n))) o

own_value : (rules : List StripRule) (steps : List Step) (n : ℕ) → IsJoined steps n → is_parent (row_at (rows_of steps) n).kind ≡ false
    → string_value_of rules steps n ≡ Known (value_at (rows_of steps) n)
own_value rules steps n j p =
    joined_answer rules steps n j ∙ ap (λ b. once_shut steps (cond b (Some n) None) (cond b (texts_below rules (rows_of steps) n) (value_at (rows_of steps) n))) p

row_later : (p q : List Step) (n : ℕ) → Grows p q → IsJoined p n → row_at (rows_of q) n ≡ row_at (rows_of p) n
row_later p q n g j = let r = prefix_rows p q g in ap (λ rows. row_at rows n) r.1 ∙ row_at_grows (rows_of p) r.0 n j

parent_later : (p q : List Step) (n : ℕ) (b : Bool) → Grows p q → IsJoined p n → is_parent (row_at (rows_of p) n).kind ≡ b → is_parent (row_at (rows_of q) n).kind ≡ b
parent_later p q n b g j h = ap (λ (r : Row). is_parent r.kind) (row_later p q n g j) ∙ h

-- the texts among rows that are there stay
flat_same : (f g : ℕ → List ℕ) (ks : List ℕ) (bound : ℕ) → ((k : ℕ) → k < bound → f k ≡ g k) → (t : ℕ → Bool) (a count : ℕ) → a + count ≤ bound → ks ≡ filter t (numbers a count)
    → flat_map f ks ≡ flat_map g ks
flat_same f g ks bound h t a count l e = subst (λ xs. flat_map f xs ≡ flat_map g xs) (sym e) (go a count l)
  where
    go : (a count : ℕ) → a + count ≤ bound → flat_map f (filter t (numbers a count)) ≡ flat_map g (filter t (numbers a count))
    go a zero l = refl
    go a (suc count) l = step (t a) (h a (omega arith)) (go (suc a) count (omega arith))
      where
        step : (b : Bool) → f a ≡ g a → flat_map f (filter t (numbers (suc a) count)) ≡ flat_map g (filter t (numbers (suc a) count))
            → flat_map f (cond b (a ∷ filter t (numbers (suc a) count)) (filter t (numbers (suc a) count)))
            ≡ flat_map g (cond b (a ∷ filter t (numbers (suc a) count)) (filter t (numbers (suc a) count)))
        step true e r = ap (λ xs. xs ++ flat_map f (filter t (numbers (suc a) count))) e ∙ ap (λ xs. g a ++ xs) r
        step false e r = r

texts_stay : (rules : List StripRule) (rows more : List Row) (a count : ℕ) → a + count ≤ length rows → texts_in rules (rows ++ more) a count ≡ texts_in rules rows a count
texts_stay rules rows more a count l =
    let same : filter (is_shown_text rules (rows ++ more)) (numbers a count) ≡ filter (is_shown_text rules rows) (numbers a count) =
    filter_same (is_shown_text rules (rows ++ more)) (is_shown_text rules rows) a count (λ k p q.
    ap (λ b. b && is_text (row_at (rows ++ more) k).kind) (visible_grows rules rows more k (omega arith))
    ∙ ap (λ (r : Row). is_visible rules rows k && is_text r.kind) (row_at_grows rows more k (omega arith))) in
    ap (flat_map (value_at (rows ++ more))) same
    ∙ flat_same (value_at (rows ++ more)) (value_at rows) (filter (is_shown_text rules rows) (numbers a count)) (length rows)
    (λ k p. ap (λ (r : Row). r.value) (row_at_grows rows more k p)) (is_shown_text rules rows) a count l refl

-- the texts of a row that is shut stay
texts_stay_below : (rules : List StripRule) (p q : List Step) (n : ℕ) → Grows p q → IsLawful q → IsJoined p n → is_open p n ≡ false → texts_below rules (rows_of q) n ≡ texts_below rules (rows_of p) n
texts_stay_below rules p q n g l j o =
    let s = shut_grows p q n g l j o in
    let w = prefix_rows p q g in
    let fits : suc n + (extent_of (rows_of p) n - suc n) ≤ length (rows_of p) = omega (arith, extent_le (rows_of p) n j) in
    texts_below_are rules (rows_of q) n (extent_le (rows_of q) n (joined_grows p q n g j))
    ∙ ap (λ k. texts_in rules (rows_of q) (suc n) (k - suc n)) s.1
    ∙ ap (λ rows. texts_in rules rows (suc n) (extent_of (rows_of p) n - suc n)) w.1
    ∙ texts_stay rules (rows_of p) w.0 (suc n) (extent_of (rows_of p) n - suc n) fits
    ∙ sym (texts_below_are rules (rows_of p) n (extent_le (rows_of p) n j))

known_stays : (a b : Answer ⊥ (List ℕ)) (x : List ℕ) → a ≡ Known x → b ≡ Known x → Stays a b
known_stays a b x e f = subst (λ c. Stays c b) (sym e) f

open_stays : (a b : Answer ⊥ (List ℕ)) (m : ℕ) → a ≡ Open m → Stays a b
open_stays a b m e = subst (λ c. Stays c b) (sym e) tt

joined_stays : (rules : List StripRule) (n : ℕ) (p q : List Step) → Grows p q → IsLawful q → IsJoined p n → Stays (string_value_of rules p n) (string_value_of rules q n)
joined_stays rules n p q g l j = elim (cases_Bool (is_parent (row_at (rows_of p) n).kind)) [
  | inl k ↦ elim (cases_Bool (is_open p n)) [
    | inl o ↦ open_stays (string_value_of rules p n) (string_value_of rules q n) n (open_value rules p n j k o)
    | inr o ↦ known_stays (string_value_of rules p n) (string_value_of rules q n) (texts_below rules (rows_of p) n) (shut_value rules p n j k o)
        (shut_value rules q n (joined_grows p q n g j) (parent_later p q n true g j k) (shut_grows p q n g l j o).0 ∙ ap (λ x. Known x) (texts_stay_below rules p q n g l j o))
  ]
  | inr k ↦ known_stays (string_value_of rules p n) (string_value_of rules q n) (value_at (rows_of p) n) (own_value rules p n j k)
      (own_value rules q n (joined_grows p q n g j) (parent_later p q n false g j k) ∙ ap (λ (r : Row). Known r.value) (row_later p q n g j))
]

pub value_lasts : (rules : List StripRule) (n : ℕ) → Lasts (λ steps. string_value_of rules steps n)
value_lasts rules n = record {
  stays = λ p q g l. elim (cases_Bool (ltb n (length (rows_of p)))) [
    | inl j ↦ joined_stays rules n p q g l (ltb-true n (length (rows_of p)) j)
    | inr j ↦ open_stays (string_value_of rules p n) (string_value_of rules q n) n (ap (λ b. cond b (once_shut p (value_need (rows_of p) n) (value_in rules (rows_of p) n)) (Open n)) j)
  ];
}
