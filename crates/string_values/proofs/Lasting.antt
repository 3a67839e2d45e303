-- What is known of a string-value stays.
use Rattle.std.proofs.Common.{◌≡◌, ℕ, suc, ◌-◌, true, false, cond, ltb, List, [], length, refl, ap, sym, ◌∙◌, subst, arith, inl, inr}
use Rattle.std.proofs.lemmas.Bool.{cases_Bool, ltb-true}
use Rattle.doc_model.specs.declared.row.Row.{Row}
use Rattle.doc_model.specs.declared.step.Step.{Step}
use Rattle.doc_model.specs.declared.strip_rule.StripRule.{StripRule}
use Rattle.doc_model.specs.Answers.{Answer, Known, Open, Stays, Lasts, once_shut}
use Rattle.doc_model.specs.Document.{is_parent, is_open}
use Rattle.doc_model.specs.Lawful.{IsLawful, Grows, IsJoined}
use Rattle.doc_model.specs.Relations.{extent_of}
use Rattle.doc_model.specs.Rows.{rows_of, row_at}
use Rattle.doc_model.specs.Values.{value_at, texts_below, value_in}
use Rattle.doc_model.specs.Values.{value_need, string_value_of}
use Rattle.doc_model.proofs.Texts.{texts_in, texts_below_are}
use Rattle.doc_laws.proofs.Growth.{joined_grows}
use Rattle.doc_laws.proofs.Ends.{shut_grows, extent_le}
use Rattle.string_values.proofs.Known.{shut_value, open_value, own_value, row_later, parent_later}
use Rattle.string_values.proofs.Reached.{Reached, reached_later}

-- the texts of a row that is shut stay
texts_stay_below : (rules : List StripRule) (p q : List Step) (n : ℕ) → Grows p q → IsLawful q → IsJoined p n → is_open p n ≡ false → texts_below rules (rows_of q) n ≡ texts_below rules (rows_of p) n
texts_stay_below rules p q n g l j o =
    let e : ℕ = extent_of (rows_of p) n in
    let s = shut_grows p q n g l j o in
    let begun : Reached rules p n (extent_of (rows_of p) n) (extent_of (rows_of p) n) [] (texts_in rules (rows_of p) (suc n) (extent_of (rows_of p) n - suc n)) =
    record { joined = j; shut = o; ends = refl; texts = refl } in
    let kept = reached_later rules p q n (extent_of (rows_of p) n) (extent_of (rows_of p) n) [] (texts_in rules (rows_of p) (suc n) (extent_of (rows_of p) n - suc n)) g l
    (omega arith) (omega arith) begun in
    texts_below_are rules (rows_of q) n (extent_le (rows_of q) n kept.joined)
    ∙ ap (λ k. texts_in rules (rows_of q) (suc n) (k - suc n)) s.1
    ∙ sym kept.texts
    ∙ sym (texts_below_are rules (rows_of p) n (extent_le (rows_of p) n j))

known_stays : (a b : Answer ⊥ (List ℕ)) (x : List ℕ) → a ≡ Known x → b ≡ Known x → Stays a b
known_stays a b x e f = subst (λ c. Stays c b) (sym e) f

open_stays : (a b : Answer ⊥ (List ℕ)) (m : ℕ) → a ≡ Open m → Stays a b
open_stays a b m e = subst (λ c. Stays c b) (sym e) tt

joined_stays : (rules : List StripRule) (n : ℕ) (p q : List Step) → Grows p q → IsLawful q → IsJoined p n → Stays (string_value_of rules p n) (string_value_of rules q n)
joined_stays rules n p q g l j = elim (cases_Bool (is_parent (row_at (rows_of p) n).kind)) [
  | inl k ↦ elim (cases_Bool (is_open p n)) [
    | inl o ↦ open_stays (string_value_of rules p n) (string_value_of rules q n) n (open_value rules p n j k o)
    | inr o ↦ known_stays (string_value_of rules p n) (string_value_of rules q n) (texts_below rules (rows_of p) n) (shut_value rules p n j k o)
        (shut_value rules q n (joined_grows p q n g j) (parent_later p q n true g j k) (shut_grows p q n g l j o).0 ∙ ap (λ x. Known x) (texts_stay_below rules p q n g l j o))
  ]
  | inr k ↦ known_stays (string_value_of rules p n) (string_value_of rules q n) (value_at (rows_of p) n) (own_value rules p n j k)
      (own_value rules q n (joined_grows p q n g j) (parent_later p q n false g j k) ∙ ap (λ (r : Row). Known r.value) (row_later p q n g j))
]

pub value_lasts : (rules : List StripRule) (n : ℕ) → Lasts (λ steps. string_value_of rules steps n)
value_lasts rules n = record {
  stays = λ p q g l. elim (cases_Bool (ltb n (length (rows_of p)))) [
    | inl j ↦ joined_stays rules n p q g l (ltb-true n (length (rows_of p)) j)
    | inr j ↦ open_stays (string_value_of rules p n) (string_value_of rules q n) n (ap (λ b. cond b (once_shut p (value_need (rows_of p) n) (value_in rules (rows_of p) n)) (Open n)) j)
  ];
}
