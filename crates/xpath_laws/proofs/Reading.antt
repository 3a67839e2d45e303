-- What is read of a longer list of steps tells what was told before.
use Rattle.std.proofs.Common.{◌≡◌, refl, sym, ap, ◌∙◌, subst, not, ℕ, ◌+◌, List, [], ◌∷◌, ◌++◌, length, filter, Bool, true, false, cond, Option, Some, arith, append-nil, length-append, inl, inr}
use Rattle.std.proofs.lemmas.Bool.{cases_Bool, cases_lt, lt-ltb, le-ltb}
use Rattle.doc_model.specs.declared.node_test.Test.{Test}
use Rattle.doc_model.specs.declared.row.Axis.TheVariants as axis
use Rattle.doc_model.specs.declared.row.Row.{Row}
use Rattle.doc_model.specs.declared.step.Step.{Step}
use Rattle.doc_model.specs.declared.strip_rule.StripRule.{StripRule}
use Rattle.doc_model.specs.Answers.{Known, Open, Stays, Lasts, once_shut}
use Rattle.doc_model.specs.Axes.{is_selected, axis_rows}
use Rattle.doc_model.specs.Document.{is_open}
use Rattle.doc_model.specs.Lawful.{IsLawful, Grows, IsJoined}
use Rattle.doc_model.specs.Relations.{numbers}
use Rattle.doc_model.specs.Rows.{rows_of, row_at}
use Rattle.doc_model.specs.Values.{string_value_of}
use Rattle.sheet_ast.specs.declared.sheet.KeyDecl.{KeyDecl}
use Rattle.doc_laws.proofs.Ends.{shut_grows}
use Rattle.doc_laws.proofs.Growth.{prefix_rows, joined_grows, row_at_grows}
use Rattle.doc_laws.proofs.Known.{axis_stays, axis_rows_stay, selected_later}
use Rattle.doc_laws.proofs.Numbers.{filter_same, filter-split}
use Rattle.doc_laws.proofs.Root.{root_extent, lawful_before}
use Rattle.xpath_meaning.specs.Keys.{id_rows, id_nodes_of, declarations, alone, strings_by, has_string, visible_rows, key_nodes_of}
use Rattle.xpath_meaning.specs.Reading.{Reading, Extends}
use Rattle.xpath_meaning.specs.Readings.{children_so_far, row_so_far, reading_without_keys, reading_of}
use Rattle.xpath_meaning.specs.Streams.{Stream, Whole, Cut, GoesOn}
use Rattle.xpath_laws.proofs.Staying.{bind_stays, if_stays, each_stays, kept_stays, with_faults_stays}
use Rattle.xpath_laws.proofs.Expressions.{evaluation_stays}
use Rattle.xpath_laws.proofs.Matching.{match_stays}
use Rattle.xpath_laws.proofs.Telling.{texts_stay}

none_more : (more : List Row) → length more ≡ 0 → more ≡ []
none_more [] e = refl
none_more (r ∷ rs) e = absurd (omega (arith, e))

-- no row comes once the root is shut
pub rows_are_all : (p q : List Step) → Grows p q → IsLawful q → is_open p 0 ≡ false → (is_open q 0 ≡ false) × (rows_of q ≡ rows_of p)
rows_are_all p q g l o =
    let j : IsJoined p 0 = omega arith in
    let s = shut_grows p q 0 g l j o in
    let r = prefix_rows p q g in
    let same = sym (root_extent q l.each) ∙ s.1 ∙ root_extent p (lawful_before p q g l).each in
    let none : length r.0 ≡ 0 = omega (arith, same, ap length r.1, length-append (rows_of p) r.0) in
    (s.0, r.1 ∙ ap (λ more. rows_of p ++ more) (none_more r.0 none) ∙ append-nil (rows_of p))

-- what is known once the root is shut, by the rows
pub root_stays : {A : Type 0} (p q : List Step) (f : List Row → A) → Grows p q → IsLawful q → Stays (once_shut p (Some 0) (f (rows_of p))) (once_shut q (Some 0) (f (rows_of q)))
root_stays p q f g l = elim (cases_Bool (is_open p 0)) [
  | inl t ↦ subst (λ z. Stays z (once_shut q (Some 0) (f (rows_of q)))) (sym (ap (λ b. cond b (Open 0) (Known (f (rows_of p)))) t)) tt
  | inr o ↦
      let s = rows_are_all p q g l o in
      subst (λ z. Stays z (once_shut q (Some 0) (f (rows_of q)))) (sym (ap (λ b. cond b (Open 0) (Known (f (rows_of p)))) o))
      (ap (λ b. cond b (Open 0) (Known (f (rows_of q)))) s.0 ∙ ap (λ rows. Known (f rows)) s.1)
]

row_later : (p q : List Step) (n : ℕ) → Grows p q → IsJoined p n → row_at (rows_of q) n ≡ row_at (rows_of p) n
row_later p q n g j = let r = prefix_rows p q g in ap (λ rows. row_at rows n) r.1 ∙ row_at_grows (rows_of p) r.0 n j

row_stays : (p q : List Step) (n : ℕ) → Grows p q → Stays (row_so_far p n) (row_so_far q n)
row_stays p q n g = elim (cases_lt n (length (rows_of p))) [
  | inr ge ↦ subst (λ z. Stays z (row_so_far q n)) (sym (ap (λ b. cond b (Known (row_at (rows_of p) n)) (Open n)) (le-ltb n (length (rows_of p)) ge))) tt
  | inl j ↦
      subst (λ z. Stays z (row_so_far q n)) (sym (ap (λ b. cond b (Known (row_at (rows_of p) n)) (Open n)) (lt-ltb n (length (rows_of p)) j)))
      (ap (λ b. cond b (Known (row_at (rows_of q) n)) (Open n)) (lt-ltb n (length (rows_of q)) (joined_grows p q n g j)) ∙ ap Known (row_later p q n g j))
]

-- the children so far begin those at a later step
children_begin : (rules : List StripRule) (p q : List Step) (test : Test) (n : ℕ) → Grows p q → IsJoined p n
    → (more : List ℕ) × (axis_rows rules (rows_of q) n axis.Child test ≡ axis_rows rules (rows_of p) n axis.Child test ++ more)
children_begin rules p q test n g j =
    let f : ℕ → Bool = is_selected rules (rows_of q) n axis.Child test in
    let c : ℕ = length (rows_of p) in
    let r = prefix_rows p q g in
    let long : length (rows_of q) ≡ c + length r.0 = ap length r.1 ∙ length-append (rows_of p) r.0 in (
      filter f (numbers (0 + c) (length r.0)),
      ap (λ i. filter f (numbers 0 i)) long ∙ filter-split f 0 c (length r.0)
          ∙ ap (λ xs. xs ++ filter f (numbers (0 + c) (length r.0)))
          (filter_same f (is_selected rules (rows_of p) n axis.Child test) 0 c (λ k x y. selected_later rules p q n axis.Child test k g j (omega arith))),
    )

abbrev pub there : List StripRule → List Step → Test → ℕ → Bool → Stream
there rules steps test n o = record { items = axis_rows rules (rows_of steps) n axis.Child test; ending = cond o (Cut n) Whole }

pub children_there : (rules : List StripRule) (steps : List Step) (test : Test) (n : ℕ) (o : Bool) → IsJoined steps n → is_open steps n ≡ o
    → children_so_far rules steps test n ≡ there rules steps test n o
children_there rules steps test n o j e =
    ap (λ b. cond b (there rules steps test n (is_open steps n)) (record { items = []; ending = Cut n })) (lt-ltb n (length (rows_of steps)) j) ∙ ap (there rules steps test n) e

children_items : (rules : List StripRule) (steps : List Step) (test : Test) (n : ℕ) → IsJoined steps n → (children_so_far rules steps test n).items ≡ axis_rows rules (rows_of steps) n axis.Child test
children_items rules steps test n j = ap (λ (s : Stream). s.items) (children_there rules steps test n (is_open steps n) j refl)

children_go_on : (rules : List StripRule) (p q : List Step) (test : Test) (n : ℕ) → Grows p q → IsLawful q → GoesOn (children_so_far rules p test n) (children_so_far rules q test n)
children_go_on rules p q test n g l = elim (cases_lt n (length (rows_of p))) [
  | inr ge ↦
      subst (λ z. GoesOn z (children_so_far rules q test n))
      (sym (ap (λ b. cond b (there rules p test n (is_open p n)) (record { items = []; ending = Cut n })) (le-ltb n (length (rows_of p)) ge)))
      ((children_so_far rules q test n).items, refl)
  | inl j ↦
      let k = joined_grows p q n g j in
      elim (cases_Bool (is_open p n)) [
        | inl t ↦
            let b = children_begin rules p q test n g j in
            subst (λ z. GoesOn z (children_so_far rules q test n)) (sym (children_there rules p test n true j t)) (b.0, children_items rules q test n k ∙ b.1)
        | inr o ↦
            let s = shut_grows p q n g l j o in
            subst (λ z. GoesOn z (children_so_far rules q test n)) (sym (children_there rules p test n false j o))
            (children_there rules q test n false k s.0
            ∙ ap (λ items. record { items = items; ending = Whole }) (axis_rows_stay rules p q n axis.Child test g l j (ap not o)))
      ]
]

pub id_stays : (id : Option (List ℕ)) (p q : List Step) (value : List ℕ) → Grows p q → IsLawful q → Stays (id_nodes_of id p value) (id_nodes_of id q value)
id_stays id p q value g l = with_faults_stays _ _ (root_stays p q (λ rows. id_rows id rows value) g l)

-- a string-value that is known stays
abbrev pub ValuesLast : Type 0
ValuesLast = (rules : List StripRule) (n : ℕ) → Lasts (λ steps. string_value_of rules steps n)

pub without_keys_extends : ValuesLast → (rules : List StripRule) (id : Option (List ℕ)) (p q : List Step) → Grows p q → IsLawful q
    → Extends (reading_without_keys rules id p) (reading_without_keys rules id q)
unfolding reading_without_keys
without_keys_extends kept rules id p q g l = record {
  axis = λ axis test n. with_faults_stays _ _ (axis_stays rules p q n axis test g l);
  children = λ test n. children_go_on rules p q test n g l;
  row = λ n. row_stays p q n g;
  value = λ n. with_faults_stays _ _ ((kept rules n).stays p q g l);
  whole = with_faults_stays _ _ (root_stays p q (λ rows. tt) g l);
  by_key = λ key value. refl;
  by_id = λ value. id_stays id p q value g l;
}

strings_by_stays : (R Q : Reading) → Extends R Q → (n : ℕ) (key : KeyDecl) → Stays (strings_by R n key) (strings_by Q n key)
strings_by_stays R Q x n key =
    bind_stays _ _ _ _ (match_stays R Q x key.matches n)
    (λ matches. if_stays matches _ _ _ _ (bind_stays _ _ _ _ (evaluation_stays R Q x key.value [] (alone n)) (texts_stay R Q x)) refl)

has_string_stays : (R Q : Reading) → Extends R Q → (keys : List KeyDecl) (value : List ℕ) (n : ℕ) → Stays (has_string R keys value n) (has_string Q keys value n)
has_string_stays R Q x keys value n = bind_stays _ _ _ _ (bind_stays _ _ _ _ (each_stays _ _ keys (strings_by_stays R Q x n)) (λ lists. refl)) (λ strings. refl)

pub key_stays : (R Q : Reading) → Extends R Q → (rules : List StripRule) (keys : List KeyDecl) (p q : List Step) (key : ℕ) (value : List ℕ) → Grows p q → IsLawful q
    → Stays (key_nodes_of R rules keys p key value) (key_nodes_of Q rules keys q key value)
key_stays R Q x rules keys p q key value g l =
    bind_stays _ _ _ _ (with_faults_stays _ _ (root_stays p q (visible_rows rules) g l)) (λ rows. kept_stays 0 _ _ rows (λ at n. has_string_stays R Q x (declarations keys key) value n))

pub reading_extends : ValuesLast → (rules : List StripRule) (keys : List KeyDecl) (id : Option (List ℕ)) (p q : List Step) → Grows p q → IsLawful q
    → Extends (reading_of rules keys id p) (reading_of rules keys id q)
unfolding reading_of
reading_extends kept rules keys id p q g l = record {
  axis = λ axis test n. with_faults_stays _ _ (axis_stays rules p q n axis test g l);
  children = λ test n. children_go_on rules p q test n g l;
  row = λ n. row_stays p q n g;
  value = λ n. with_faults_stays _ _ ((kept rules n).stays p q g l);
  whole = with_faults_stays _ _ (root_stays p q (λ rows. tt) g l);
  by_key = λ key value. key_stays _ _ (without_keys_extends kept rules id p q g l) rules keys p q key value g l;
  by_id = λ value. id_stays id p q value g l;
}
