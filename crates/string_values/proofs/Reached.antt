-- How far the texts of a row have been appended.
use Rattle.std.proofs.Common.{◌≡◌, ℕ, zero, suc, ◌+◌, ◌-◌, ◌<◌, ◌≤◌, Bool, true, false, cond, ◌&&◌, List, [], ◌∷◌, ◌++◌, length, filter, flat_map}
use Rattle.std.proofs.Common.{refl, ap, sym, ◌∙◌, subst, arith, append-nil, append_assoc}
use Rattle.std.proofs.lemmas.Bool.{and_right}
use Rattle.doc_model.specs.declared.row.Row.{Row}
use Rattle.doc_model.specs.declared.step.Step.{Step}
use Rattle.doc_model.specs.declared.strip_rule.StripRule.{StripRule}
use Rattle.doc_model.specs.Answers.{Known}
use Rattle.doc_model.specs.Document.{is_parent, is_open}
use Rattle.doc_model.specs.Lawful.{IsLawful, Grows, IsJoined}
use Rattle.doc_model.specs.Relations.{numbers, extent_of}
use Rattle.doc_model.specs.Rows.{rows_of, row_at}
use Rattle.doc_model.specs.Strip.{is_text, is_visible}
use Rattle.doc_model.specs.Values.{is_shown_text, value_at}
use Rattle.doc_model.specs.Values.{string_value_of}
use Rattle.doc_model.proofs.Texts.{texts_in, texts_push, texts_below_are}
use Rattle.doc_laws.proofs.Numbers.{filter_same}
use Rattle.doc_laws.proofs.Growth.{joined_grows, prefix_rows, row_at_grows}
use Rattle.doc_laws.proofs.Ends.{shut_grows, extent_le}
use Rattle.doc_laws.proofs.Visible.{visible_grows}
use Rattle.string_values.specs.Appended.{appended_to}
use Rattle.string_values.proofs.Known.{shut_value}

-- what row k gives by itself
abbrev pub alone : List StripRule → List Row → ℕ → List ℕ
alone rules rows k = flat_map (value_at rows) (filter (is_shown_text rules rows) (k ∷ []))

pub other_alone : (rules : List StripRule) (rows : List Row) (k : ℕ) → is_text (row_at rows k).kind ≡ false → alone rules rows k ≡ []
other_alone rules rows k h = ap (λ b. flat_map (value_at rows) (cond b (k ∷ []) [])) (and_right (is_visible rules rows k) (is_text (row_at rows k).kind) h)

pub hidden_alone : (rules : List StripRule) (rows : List Row) (k : ℕ) → is_visible rules rows k ≡ false → alone rules rows k ≡ []
hidden_alone rules rows k h = ap (λ b. flat_map (value_at rows) (cond (b && is_text (row_at rows k).kind) (k ∷ []) [])) h

pub text_alone : (rules : List StripRule) (rows : List Row) (k : ℕ) → is_visible rules rows k ≡ true → is_text (row_at rows k).kind ≡ true → alone rules rows k ≡ value_at rows k
text_alone rules rows k v h =
    ap (λ b. flat_map (value_at rows) (cond (b && is_text (row_at rows k).kind) (k ∷ []) [])) v
    ∙ ap (λ b. flat_map (value_at rows) (cond b (k ∷ []) [])) h ∙ append-nil (value_at rows k)

-- the texts among rows that are there stay
flat_same : (f g : ℕ → List ℕ) (ks : List ℕ) (bound : ℕ) → ((k : ℕ) → k < bound → f k ≡ g k) → (t : ℕ → Bool) (a count : ℕ) → a + count ≤ bound → ks ≡ filter t (numbers a count)
    → flat_map f ks ≡ flat_map g ks
flat_same f g ks bound h t a count l e = subst (λ xs. flat_map f xs ≡ flat_map g xs) (sym e) (go a count l)
  where
    go : (a count : ℕ) → a + count ≤ bound → flat_map f (filter t (numbers a count)) ≡ flat_map g (filter t (numbers a count))
    go a zero l = refl
    go a (suc count) l = step (t a) (h a (omega arith)) (go (suc a) count (omega arith))
      where
        step : (b : Bool) → f a ≡ g a → flat_map f (filter t (numbers (suc a) count)) ≡ flat_map g (filter t (numbers (suc a) count))
            → flat_map f (cond b (a ∷ filter t (numbers (suc a) count)) (filter t (numbers (suc a) count)))
            ≡ flat_map g (cond b (a ∷ filter t (numbers (suc a) count)) (filter t (numbers (suc a) count)))
        step true e r = ap (λ xs. xs ++ flat_map f (filter t (numbers (suc a) count))) e ∙ ap (λ xs. g a ++ xs) r
        step false e r = r

texts_stay : (rules : List StripRule) (rows more : List Row) (a count : ℕ) → a + count ≤ length rows → texts_in rules (rows ++ more) a count ≡ texts_in rules rows a count
texts_stay rules rows more a count l =
    let same : filter (is_shown_text rules (rows ++ more)) (numbers a count) ≡ filter (is_shown_text rules rows) (numbers a count) =
    filter_same (is_shown_text rules (rows ++ more)) (is_shown_text rules rows) a count (λ k p q.
    ap (λ b. b && is_text (row_at (rows ++ more) k).kind) (visible_grows rules rows more k (omega arith))
    ∙ ap (λ (r : Row). is_visible rules rows k && is_text r.kind) (row_at_grows rows more k (omega arith))) in
    ap (flat_map (value_at (rows ++ more))) same
    ∙ flat_same (value_at (rows ++ more)) (value_at rows) (filter (is_shown_text rules rows) (numbers a count)) (length rows)
    (λ k p. ap (λ (r : Row). r.value) (row_at_grows rows more k p)) (is_shown_text rules rows) a count l refl

-- row n is shut, ends there, and the texts of the rows up to row k were appended
pub record Reached (rules : List StripRule) (steps : List Step) (n k end : ℕ) (front into : List ℕ) : Type 0 where
  pub joined : IsJoined steps n
  pub shut : is_open steps n ≡ false
  pub ends : end ≡ extent_of (rows_of steps) n
  pub texts : into ≡ front ++ texts_in rules (rows_of steps) (suc n) (k - suc n)

pub reached_first : (rules : List StripRule) (steps : List Step) (n k end : ℕ) (front : List ℕ) → IsJoined steps n → k ≡ n + 1 → is_open steps n ≡ false
    → end ≡ extent_of (rows_of steps) n → Reached rules steps n k end front front
reached_first rules steps n k end front j e o h =
    let z : k - suc n ≡ 0 = omega arith in
    record { joined = j; shut = o; ends = h; texts = sym (ap (λ c. front ++ texts_in rules (rows_of steps) (suc n) c) z ∙ append-nil front) }

pub reached_joined : (rules : List StripRule) (steps : List Step) (n k end : ℕ) (front into : List ℕ) → Reached rules steps n k end front into → k < end → IsJoined steps k
reached_joined rules steps n k end front into r l = omega (arith, r.ends, extent_le (rows_of steps) n r.joined)

pub reached_later : (rules : List StripRule) (p q : List Step) (n k end : ℕ) (front into : List ℕ) → Grows p q → IsLawful q → n < k → k ≤ end → Reached rules p n k end front into
    → Reached rules q n k end front into
reached_later rules p q n k end front into g l a b r =
    let s = shut_grows p q n g l r.joined r.shut in
    let w = prefix_rows p q g in
    let fits : suc n + (k - suc n) ≤ length (rows_of p) = omega (arith, r.ends, extent_le (rows_of p) n r.joined) in
    record {
      joined = joined_grows p q n g r.joined;
      shut = s.0;
      ends = r.ends ∙ sym s.1;
      texts = r.texts ∙ ap (λ xs. front ++ xs) (sym (ap (λ rows. texts_in rules rows (suc n) (k - suc n)) w.1 ∙ texts_stay rules (rows_of p) w.0 (suc n) (k - suc n) fits));
    }

pub reached_on : (rules : List StripRule) (steps : List Step) (n k end : ℕ) (front into more : List ℕ) → n < k → Reached rules steps n k end front into
    → more ≡ into ++ alone rules (rows_of steps) k → Reached rules steps n (k + 1) end front more
reached_on rules steps n k end front into more a r h =
    let e : suc n + (k - suc n) ≡ k = omega arith in
    let s : (k + 1) - suc n ≡ (k - suc n) + 1 = omega arith in
    let rows : List Row = rows_of steps in
    record {
      joined = r.joined;
      shut = r.shut;
      ends = r.ends;
      texts =
          h ∙ ap (λ xs. xs ++ alone rules (rows_of steps) k) r.texts
          ∙ append_assoc front (texts_in rules (rows_of steps) (suc n) (k - suc n)) (alone rules (rows_of steps) k)
          ∙ ap (λ xs. front ++ xs) (
          ap (λ j. texts_in rules (rows_of steps) (suc n) (k - suc n) ++ alone rules (rows_of steps) j) (sym e)
          ∙ sym (texts_push rules (rows_of steps) (suc n) (k - suc n))
          ∙ sym (ap (texts_in rules (rows_of steps) (suc n)) s));
    }

-- all texts were appended
pub reached_end : (rules : List StripRule) (steps : List Step) (n k end : ℕ) (front into : List ℕ) → IsLawful steps → is_parent (row_at (rows_of steps) n).kind ≡ true → k ≡ end
    → Reached rules steps n k end front into → appended_to front (string_value_of rules steps n) ≡ Known into
reached_end rules steps n k end front into l p e r =
    ap (appended_to front) (shut_value rules steps n r.joined p r.shut)
    ∙ ap (λ xs. Known (front ++ xs)) (texts_below_are rules (rows_of steps) n (extent_le (rows_of steps) n r.joined) ∙ sym (ap (λ j. texts_in rules (rows_of steps) (suc n) (j - suc n)) (e ∙ r.ends)))
    ∙ ap (λ xs. Known xs) (sym r.texts)
