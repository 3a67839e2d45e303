-- What the words say of a table that stands still.
use Rattle.std.proofs.Common.{◌≡◌, ℕ, zero, suc, ◌+◌, ◌-◌, ◌<◌, Bool, true, false, cond, not, List, [], length, Option, Some, None, get_or, refl, ap, sym, ◌∙◌, arith, inl, inr}
use Rattle.std.proofs.lemmas.Bool.{cases_Bool, false≢true}
use Rattle.doc_model.specs.declared.row.Row.{Row}
use Rattle.doc_model.specs.declared.row.Kind.{Kind}
use Rattle.doc_model.specs.declared.row.Kind.TheVariants.{Root, Element, Attribute, Text, Instruction, Comment, Comment}
use Rattle.doc_model.specs.declared.step.Step.{Step}
use Rattle.doc_model.specs.declared.step.Verdict.{Verdict}
use Rattle.doc_model.specs.declared.look.Look.{Look}
use Rattle.doc_model.specs.declared.look.Look.TheVariants.{Nothing}
use Rattle.doc_model.specs.Document.{document_of, is_open, is_parent, is_attribute}
use Rattle.doc_model.specs.Lawful.{IsLawful}
use Rattle.doc_model.specs.Relations.{parent_of, first_child, next_among, next_sibling, sibling_parent}
use Rattle.doc_model.specs.Rows.{rows_of, row_at}
use Rattle.doc_model.specs.Shown.{first_shown, next_shown}
use Rattle.doc_model.specs.View.{EndedIs, ExtentIs, LinkIs, is_settled}
use Rattle.doc_laws.specs.Words.{link_of}
use Rattle.doc_laws.proofs.Growth.{Grows-refl}
use Rattle.doc_laws.proofs.Stack.{stack_of}
use Rattle.doc_laws.proofs.Links.{parent_before}
use Rattle.doc_laws.proofs.Words.{member_parent}
use Rattle.doc_laws.proofs.Sound.{lawful_tree}
use Rattle.plain_columns.specs.declared.table.Plain.TheInside.{Inside}
use Rattle.plain_columns.specs.Table.{table_of, PlainHolds}
use Rattle.plain_columns.specs.Look.{look_of}
use Rattle.plain_columns.specs.Spelled.{WordsHold}

-- of a table that stands still
abbrev pub FirstLooks : List Step → ℕ → Look → Type 0
FirstLooks p n look = LinkIs (λ rows. first_shown [] rows n) (λ _. Some n) p p look

abbrev pub NextLooks : List Step → ℕ → Look → Type 0
NextLooks p n look = LinkIs (λ rows. next_shown [] rows n) (λ rows. sibling_parent rows n) p p look

pub ended_still : (p : List Step) (v : Option Verdict) → v ≡ (document_of p).ended → EndedIs p p v
ended_still p None e = (p, Grows-refl p, Grows-refl p, sym e)
ended_still p (Some v) e = sym e

pub leaf_kind : (k : Kind) → (k ≡ Root → ⊥) → (k ≡ Element → ⊥) → is_parent k ≡ false
leaf_kind Root a b = absurd (a refl)
leaf_kind Element a b = absurd (b refl)
leaf_kind Attribute a b = refl
leaf_kind Text a b = refl
leaf_kind Instruction a b = refl
leaf_kind Comment a b = refl

pub inner_kind : (k : Kind) → (k ≡ Attribute → ⊥) → is_attribute k ≡ false
inner_kind Root a = refl
inner_kind Element a = refl
inner_kind Attribute a = absurd (a refl)
inner_kind Text a = refl
inner_kind Instruction a = refl
inner_kind Comment a = refl

-- the word of a link, and the row that decides it
look_is : (p : List Step) (link decider : List Row → Option ℕ) (w e : ℕ) (parent : Bool) (d : ℕ)
    → link_of w ≡ link (rows_of p) → decider (rows_of p) ≡ Some d
    → (parent ≡ false → is_open p d ≡ false)
    → (e ≡ 0 → parent ≡ true → is_open p d ≡ true) → ((k : ℕ) → e ≡ suc k → is_open p d ≡ false)
    → LinkIs link decider p p (look_of w parent e)
look_is p link decider (suc j) e parent d l s a b c = sym l
look_is p link decider zero e false d l s a b c = (sym l, ap (is_settled p) s ∙ ap not (a refl))
look_is p link decider zero zero true d l s a b c = (p, Grows-refl p, Grows-refl p, (sym l, ap (is_settled p) s ∙ ap not (b refl refl)))
look_is p link decider zero (suc k) true d l s a b c = (sym l, ap (is_settled p) s ∙ ap not (c k refl))

module _ (p : List Step) (first next extent : List ℕ) (v : Option Verdict) (w : WordsHold p first next extent v) where
  -- a row that cannot have children is not open
  leaf_closed : (n : ℕ) → is_parent (row_at (rows_of p) n).kind ≡ false → is_open p n ≡ false
  leaf_closed n h = elim (cases_Bool (is_open p n)) [
    | inl o ↦ absurd (false≢true (sym h ∙ member_parent (rows_of p) (document_of p).opened n (stack_of p w.lawful) o))
    | inr o ↦ o
  ]

  unset_open : (n : ℕ) → n < length (rows_of p) → is_parent (row_at (rows_of p) n).kind ≡ true → get_or extent n 0 ≡ 0 → is_open p n ≡ true
  unset_open n l par z = elim (cases_Bool (is_open p n)) [
    | inl o ↦ o
    | inr o ↦ absurd (let e = w.extents.shut n l par o in omega (arith, e, z))
  ]

  set_shut : (n k : ℕ) → get_or extent n 0 ≡ suc k → is_open p n ≡ false
  set_shut n k s = elim (cases_Bool (is_open p n)) [
    | inl o ↦ absurd (let e = w.extents.unset n o in omega (arith, e, s))
    | inr o ↦ o
  ]

  pub first_look : (n : ℕ) (kind : Kind) → n < length (rows_of p) → (row_at (rows_of p) n).kind ≡ kind
      → FirstLooks p n (look_of (get_or first n 0) (is_parent kind) (get_or extent n 0))
  first_look n kind l k =
      look_is p (λ rows. first_child rows n) (λ _. Some n) (get_or first n 0) (get_or extent n 0) (is_parent kind) n (w.links.firsts n) refl
      (λ f. leaf_closed n (ap is_parent k ∙ f))
      (λ z t. unset_open n l (ap is_parent k ∙ t) z)
      (λ j s. set_shut n j s)

  decides : (n o : ℕ) → is_attribute (row_at (rows_of p) n).kind ≡ false → parent_of (rows_of p) n ≡ Some o → sibling_parent (rows_of p) n ≡ Some o
  decides n o a h = ap (λ b. cond b None (parent_of (rows_of p) n)) a ∙ h

  pub next_look : (n o : ℕ) → n < length (rows_of p) → is_attribute (row_at (rows_of p) n).kind ≡ false → parent_of (rows_of p) n ≡ Some o
      → NextLooks p n (look_of (get_or next n 0) true (get_or extent o 0))
  next_look n o l a h =
      let t = lawful_tree p w.lawful in
      let b = parent_before (rows_of p) n o h in
      look_is p (λ rows. next_sibling rows n) (λ rows. sibling_parent rows n) (get_or next n 0) (get_or extent o 0) true o (w.links.nexts n) (decides n o a h)
      (λ f. absurd (false≢true (sym f)))
      (λ z t'. unset_open o (b.1) (t.parents n o l h) z)
      (λ j s. set_shut o j s)

  -- the root and attributes have no siblings
  pub attribute_next : (n : ℕ) → is_attribute (row_at (rows_of p) n).kind ≡ true → NextLooks p n Nothing
  attribute_next n a =
      let s : sibling_parent (rows_of p) n ≡ None = ap (λ b. cond b None (parent_of (rows_of p) n)) a in
      (ap (next_among (rows_of p) n) s, ap (is_settled p) s)

  pub root_next : NextLooks p 0 Nothing
  root_next = (ap (next_among (rows_of p) 0) s, ap (is_settled p) s)
    where
      s : sibling_parent (rows_of p) 0 ≡ None
      s = elim (cases_Bool (is_attribute (row_at (rows_of p) 0).kind)) [ inl e ↦ ap (λ b. cond b None (parent_of (rows_of p) 0)) e | inr e ↦ ap (λ b. cond b None (parent_of (rows_of p) 0)) e ]

  pub leaf_extent : (n : ℕ) → n < length (rows_of p) → is_parent (row_at (rows_of p) n).kind ≡ false → ExtentIs p p n (Some (n + 1))
  leaf_extent n l h = (leaf_closed n h, omega (arith, (lawful_tree p w.lawful).leaves n l h))

  pub open_extent : (n : ℕ) → n < length (rows_of p) → is_parent (row_at (rows_of p) n).kind ≡ true → get_or extent n 0 ≡ 0 → ExtentIs p p n None
  open_extent n l h z = (p, Grows-refl p, Grows-refl p, unset_open n l h z)

  pub shut_extent : (n k : ℕ) → n < length (rows_of p) → is_parent (row_at (rows_of p) n).kind ≡ true → get_or extent n 0 ≡ k → (k ≡ 0 → ⊥) → ExtentIs p p n (Some k)
  shut_extent n k l h e nz =
      let s : k ≡ suc (k - 1) = omega (arith, nz) in
      let c = set_shut n (k - 1) (e ∙ s) in
      (c, sym e ∙ w.extents.shut n l h c)

pub table_lawful : (p : Inside) → PlainHolds p → IsLawful (table_of p).cells.steps
table_lawful p h = record { each = h.words.lawful; few = omega (arith, h.placed.joined, h.placed.within, h.places.within, h.small.rows_fit) }
