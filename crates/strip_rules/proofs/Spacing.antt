-- What xml:space says on the way along the attributes of a row, and up to its ancestors.
use Rattle.std.proofs.Common.{◌≡◌, ℕ, zero, suc, ◌+◌, ◌<◌, ◌≤◌, Bool, true, false, cond, List, [], ◌∷◌, ◌++◌, length, Some, None, drop, refl, ap}
use Rattle.std.proofs.Common.{sym, ◌∙◌, subst, arith, length-drop, inl, inr, codes, bytes_eq}
use Rattle.std.proofs.lemmas.Bool.{cases_Bool}
use Rattle.std.proofs.lemmas.List.{drop_more}
use Rattle.doc_model.specs.declared.row.Row.{Row}
use Rattle.doc_model.specs.declared.step.Step.{Step}
use Rattle.doc_model.specs.Document.{is_attribute}
use Rattle.doc_model.specs.Lawful.{IsLawful, Grows, IsJoined}
use Rattle.doc_model.specs.Relations.{parent_of, attribute_run, attr_count_of}
use Rattle.doc_model.specs.Rows.{root_row, rows_of, row_at}
use Rattle.doc_model.specs.Strip.{is_named, space_in, says_space, or_else, unless_said, keeps_from, keeps_space}
use Rattle.doc_laws.proofs.Growth.{prefix_rows, parent_grows}
use Rattle.doc_laws.proofs.Links.{parent_before}
use Rattle.doc_laws.proofs.Root.{length_grows}
use Rattle.doc_laws.proofs.Visible.{keeps_grows}
use Rattle.strip_rules.proofs.Later.{runs_later}

-- the walk along the attributes of row n stands before the i-th, and those before said nothing
pub record Saying (rows : List Row) (n i count : ℕ) : Type 0 where
  pub joined : suc n + i ≤ length rows
  pub same : space_in (drop (suc n) rows) ≡ space_in (drop (suc n + i) rows)
  pub left : attribute_run (drop (suc n + i) rows) + i ≡ count

pub saying_first : (rows : List Row) (n count : ℕ) → n < length rows → is_attribute (row_at rows n).kind ≡ false → count ≡ attr_count_of rows n → Saying rows n 0 count
saying_first rows n count l a e =
    let z : suc n + 0 ≡ suc n = omega arith in
    record {
      joined = omega arith;
      same = ap (λ k. space_in (drop k rows)) (sym z);
      left = ap (λ k. attribute_run (drop k rows) + 0) z ∙ omega arith ∙ sym (ap (λ b. cond b 0 (attribute_run (drop (suc n) rows))) a) ∙ sym e;
    }

run_some : (xs : List Row) → 0 < attribute_run xs → 0 < length xs
run_some [] h = absurd (omega arith)
run_some (x ∷ xs) h = omega arith

run_head : (x : Row) (xs : List Row) → 0 < attribute_run (x ∷ xs) → (is_attribute x.kind ≡ true) × (attribute_run (x ∷ xs) ≡ suc (attribute_run xs))
run_head x xs h = elim (cases_Bool (is_attribute x.kind)) [
  | inl e ↦ (e, ap (λ b. cond b (suc (attribute_run xs)) 0) e)
  | inr e ↦ absurd (let z : attribute_run (x ∷ xs) ≡ 0 = ap (λ b. cond b (suc (attribute_run xs)) 0) e in omega arith)
]

run_none : (xs : List Row) → attribute_run xs ≡ 0 → space_in xs ≡ None
run_none [] h = refl
run_none (x ∷ xs) h = elim (cases_Bool (is_attribute x.kind)) [
  | inl e ↦ absurd (let z : attribute_run (x ∷ xs) ≡ suc (attribute_run xs) = ap (λ b. cond b (suc (attribute_run xs)) 0) e in omega arith)
  | inr e ↦ ap (λ b. cond b (or_else (says_space x) (space_in xs)) None) e
]

module _ (rows : List Row) (n i count : ℕ) (s : Saying rows n i count) (l : i < count) where
  some : 0 < attribute_run (drop (suc n + i) rows)
  some = omega (arith, s.left)

  -- the i-th attribute is there
  pub saying_within : suc n + i < length rows
  saying_within = omega (arith, run_some (drop (suc n + i) rows) some, length-drop (suc n + i) rows)

  rest : List Row
  rest = drop (suc n + i + 1) rows

  cut : drop (suc n + i) rows ≡ row_at rows (suc n + i) ∷ drop (suc n + i + 1) rows
  cut = drop_more rows (suc n + i) root_row saying_within

  head : (is_attribute (row_at rows (suc n + i)).kind ≡ true) × (attribute_run (row_at rows (suc n + i) ∷ drop (suc n + i + 1) rows) ≡ suc (attribute_run (drop (suc n + i + 1) rows)))
  head = run_head (row_at rows (suc n + i)) (drop (suc n + i + 1) rows) (subst (λ xs. 0 < attribute_run xs) cut some)

  said : space_in (drop (suc n) rows) ≡ or_else (says_space (row_at rows (suc n + i))) (space_in (drop (suc n + i + 1) rows))
  said = s.same ∙ ap space_in cut ∙ ap (λ b. cond b (or_else (says_space (row_at rows (suc n + i))) (space_in (drop (suc n + i + 1) rows))) None) (head.0)

  -- the attribute decides
  pub saying_found : (b : Bool) → says_space (row_at rows (suc n + i)) ≡ Some b → space_in (drop (suc n) rows) ≡ Some b
  saying_found b e = said ∙ ap (λ o. or_else o (space_in (drop (suc n + i + 1) rows))) e

  -- the attribute says nothing
  pub saying_next : says_space (row_at rows (suc n + i)) ≡ None → Saying rows n (i + 1) count
  saying_next e =
      let z : suc n + i + 1 ≡ suc n + (i + 1) = omega arith in
      let c : attribute_run (drop (suc n + (i + 1)) rows) ≡ attribute_run (drop (suc n + i + 1) rows) = ap (λ j. attribute_run (drop j rows)) (sym z) in
      let d : attribute_run (drop (suc n + i) rows) ≡ suc (attribute_run (drop (suc n + i + 1) rows)) = ap attribute_run cut ∙ head.1 in
      record {
        joined = omega (arith, saying_within);
        same = said ∙ ap (λ o. or_else o (space_in (drop (suc n + i + 1) rows))) e ∙ ap (λ j. space_in (drop j rows)) z;
        left = omega (arith, c, d, s.left);
      }

pub saying_end : (rows : List Row) (n i count : ℕ) → count ≤ i → Saying rows n i count → space_in (drop (suc n) rows) ≡ None
saying_end rows n i count l s = s.same ∙ run_none (drop (suc n + i) rows) (omega (arith, s.left))

-- the walk along the attributes on later rows
pub saying_later : (p q : List Step) (n i count : ℕ) → Grows p q → IsLawful q → Saying (rows_of p) n i count → Saying (rows_of q) n i count
saying_later p q n i count g l s =
    let e : suc n + i ≡ suc (n + i) = omega arith in
    let a = runs_later p q n g l (let j = s.joined in omega arith) in
    let b = runs_later p q (n + i) g l (let j = s.joined in omega arith) in
    let run : attribute_run (drop (suc n + i) (rows_of q)) ≡ attribute_run (drop (suc n + i) (rows_of p)) =
    ap (λ k. attribute_run (drop k (rows_of q))) e ∙ b.0 ∙ sym (ap (λ k. attribute_run (drop k (rows_of p))) e) in
    let space : space_in (drop (suc n + i) (rows_of q)) ≡ space_in (drop (suc n + i) (rows_of p)) = ap (λ k. space_in (drop k (rows_of q))) e ∙ b.1 ∙ sym (ap (λ k. space_in (drop k (rows_of p))) e) in
    record {
      joined = longer p q (suc n + i) g s.joined;
      same = a.1 ∙ s.same ∙ sym space;
      left = ap (λ k. k + i) run ∙ s.left;
    }
  where
    longer : (p q : List Step) (k : ℕ) → Grows p q → k ≤ length (rows_of p) → k ≤ length (rows_of q)
    longer p q k g h = omega (arith, h, length_grows p q g)

-- the walk up from row n stands at row at, and what was passed said nothing
pub record Keeping (rows : List Row) (n at : ℕ) : Type 0 where
  pub most : ℕ
  pub room : at ≤ most
  pub order : at ≤ n
  pub same : keeps_from rows most (parent_of rows at) ≡ keeps_space rows n

pub keeping_first : (rows : List Row) (n : ℕ) → Keeping rows n n
keeping_first rows n = record { most = n; room = omega arith; order = omega arith; same = refl }

no_parent : (rows : List Row) (most : ℕ) → keeps_from rows most None ≡ false
no_parent rows zero = refl
no_parent rows (suc most) = refl

pub keeping_end : (rows : List Row) (n at : ℕ) → Keeping rows n at → parent_of rows at ≡ None → keeps_space rows n ≡ false
keeping_end rows n at k e = sym k.same ∙ ap (keeps_from rows k.most) e ∙ no_parent rows k.most

-- one row up
pub keeping_up : (rows : List Row) (n at p : ℕ) → Keeping rows n at → parent_of rows at ≡ Some p
    → (space_in (drop (suc p) rows) ≡ None → Keeping rows n p) × ((b : Bool) → space_in (drop (suc p) rows) ≡ Some b → keeps_space rows n ≡ b)
keeping_up rows n at p k e = go k.most k.room k.same
  where
    go : (most : ℕ) → at ≤ most → keeps_from rows most (parent_of rows at) ≡ keeps_space rows n
        → (space_in (drop (suc p) rows) ≡ None → Keeping rows n p) × ((b : Bool) → space_in (drop (suc p) rows) ≡ Some b → keeps_space rows n ≡ b)
    go zero room same = absurd (let b = parent_before rows at p e in omega (arith, b.0))
    go (suc most) room same =
        let b = parent_before rows at p e in
        let s : unless_said (space_in (drop (suc p) rows)) (keeps_from rows most (parent_of rows p)) ≡ keeps_space rows n = sym (ap (keeps_from rows (suc most)) e) ∙ same in (
          λ z. record { most = most; room = omega (arith, b.0); order = omega (arith, b.0, k.order); same = sym (ap (λ x. unless_said x (keeps_from rows most (parent_of rows p))) z) ∙ s },
          λ x z. sym s ∙ ap (λ y. unless_said y (keeps_from rows most (parent_of rows p))) z,
        )

-- the walk up on later rows
pub keeping_later : (p q : List Step) (n at : ℕ) → Grows p q → IsJoined p n → is_attribute (row_at (rows_of p) n).kind ≡ false → Keeping (rows_of p) n at → Keeping (rows_of q) n at
keeping_later p q n at g j a k =
    let r = prefix_rows p q g in
    let go : Keeping (rows_of p ++ r.0) n at = record {
      most = k.most;
      room = k.room;
      order = k.order;
      same =
          ap (keeps_from (rows_of p ++ r.0) k.most) (parent_grows (rows_of p) r.0 at (omega (arith, k.order)))
          ∙ keeps_grows (rows_of p) r.0 n j a k.most (parent_of (rows_of p) at) (λ o e. let b = parent_before (rows_of p) at o e in omega (arith, b.0, k.order))
          ∙ k.same
          ∙ sym (ap (keeps_from (rows_of p ++ r.0) n) (parent_grows (rows_of p) r.0 n j) ∙ keeps_grows (rows_of p) r.0 n j a n (parent_of (rows_of p) n) (λ o e. (parent_before (rows_of p) n o e).0));
    } in
    subst (λ rows. Keeping rows n at) (sym r.1) go

abbrev pub is_space : Row → Bool
is_space row = is_named row (codes "http://www.w3.org/XML/1998/namespace") (Some (codes "space"))

-- what an attribute says, by the three tests
pub says_of : (row : Row) (a b c : Bool) → is_space row ≡ a → bytes_eq row.value (codes "preserve") ≡ b → bytes_eq row.value (codes "default") ≡ c → says_space row ≡ cond a (cond b (Some true) (cond c (Some false) None)) None
says_of row a b c e f g =
    ap (λ x. cond x (cond (bytes_eq row.value (codes "preserve")) (Some true) (cond (bytes_eq row.value (codes "default")) (Some false) None)) None) e
    ∙ ap (λ x. cond a (cond x (Some true) (cond (bytes_eq row.value (codes "default")) (Some false) None)) None) f
    ∙ ap (λ x. cond a (cond b (Some true) (cond x (Some false) None)) None) g
