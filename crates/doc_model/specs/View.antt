-- What the calls on a view answer.
use Rattle.std.specs.Prelude.{◌≡◌, ℕ, ◌<◌, Bool, true, false, not, List, ◌++◌, length, Option, Some, None, IfSome, slice_index}
use Rattle.std.specs.Borrow.{Bor}
use Rattle.doc_model.specs.declared.look.Look.{Look}
use Rattle.doc_model.specs.declared.look.Look.TheVariants.{Node, Nothing, NotYet}
use Rattle.doc_model.specs.declared.row.NameText.{NameText}
use Rattle.doc_model.specs.declared.row.Row.{Row}
use Rattle.doc_model.specs.declared.step.Step.{Step}
use Rattle.doc_model.specs.declared.step.Verdict.{Verdict}
use Rattle.doc_model.specs.declared.strip_rule.StripRule.{StripRule}
use Rattle.doc_model.specs.Document.{document_of, is_open}
use Rattle.doc_model.specs.Lawful.{IsLawful, Grows, AtStep}
use Rattle.doc_model.specs.Relations.{sibling_parent, extent_of}
use Rattle.doc_model.specs.Rows.{rows_of, row_at}
use Rattle.doc_model.specs.Shown.{first_shown, next_shown}

-- what a view has seen: the steps, all the steps that there will be where they are told, the type numbers of the rows, the strip rules by which rows are visible, and what tells the borrow that the view stands on
pub record Seen (M : Type 0) : Type 0 where
  pub steps : List Step
  pub whole : Option (List Step)
  pub types : List ℕ
  pub rules : List StripRule
  pub mark : M

-- two rows have one expanded type: kind, URI and local name
pub record IsSameType (a b : Row) : Type 0 where
  pub kind : a.kind ≡ b.kind
  pub uri : a.uri ≡ b.uri
  pub local : a.local ≡ b.local

-- a type number for each row, and two of them are equal exactly where the types are
pub record TypesHold (rows : List Row) (types : List ℕ) : Type 0 where
  pub count : length types ≡ length rows
  pub same : (j k : ℕ) → j < length rows → k < length rows → slice_index types j ≡ slice_index types k → IsSameType (row_at rows j) (row_at rows k)
  pub one : (j k : ℕ) → j < length rows → k < length rows → IsSameType (row_at rows j) (row_at rows k) → slice_index types j ≡ slice_index types k

-- the steps are lawful and a beginning of the whole, where that is told, and the type numbers are those of the rows
pub record IsSeen {M : Type 0} (seen : Seen M) : Type 0 where
  pub lawful : IsLawful seen.steps
  pub within : IfSome seen.whole (λ whole. Grows seen.steps whole)
  pub types : TypesHold (rows_of seen.steps) seen.types

-- a call leaves the steps as they were or lets them grow, and keeps the whole, the rules and the mark
pub record Moves {M : Type 0} (before later : Seen M) : Type 0 where
  pub grows : Grows before.steps later.steps
  pub types_grow : (rest : List ℕ) × (before.types ++ rest ≡ later.types)
  pub whole_stays : later.whole ≡ before.whole
  pub rules_stay : later.rules ≡ before.rules
  pub mark_stays : later.mark ≡ before.mark
  pub seen : IsSeen later

-- the row that decides is shut, or nothing decides: no further row can be linked
abbrev pub is_settled : List Step → Option ℕ → Bool
is_settled steps None = true
is_settled steps (Some n) = not (is_open steps n)

-- what a call answers of a link that is decided by a row. A node is the link at the end of the call; nothing: there is none there, and it is settled; not yet: at a step of the call there was none, and it was not settled
abbrev pub LinkIs : (List Row → Option ℕ) → (List Row → Option ℕ) → List Step → List Step → Look → Type 0
LinkIs link decider before later (Node k) = link (rows_of later) ≡ Some k
LinkIs link decider before later Nothing = (link (rows_of later) ≡ None) × (is_settled later (decider (rows_of later)) ≡ true)
LinkIs link decider before later NotYet =
    AtStep before later (λ steps. (link (rows_of steps) ≡ None) × (is_settled steps (decider (rows_of steps)) ≡ false))

-- the first visible child, which row n itself decides
abbrev pub FirstIs : {M : Type 0} → Seen M → Seen M → ℕ → Look → Type 0
FirstIs before later n look = LinkIs (λ rows. first_shown later.rules rows n) (λ _. Some n) before.steps later.steps look

-- the next visible sibling, which the parent decides; nothing decides it of the root and of attributes
abbrev pub NextIs : {M : Type 0} → Seen M → Seen M → ℕ → Look → Type 0
NextIs before later n look = LinkIs (λ rows. next_shown later.rules rows n) (λ rows. sibling_parent rows n) before.steps later.steps look

-- the extent of a row that is not open at the end of the call, or that it was open at a step of the call
abbrev pub ExtentIs : List Step → List Step → ℕ → Option ℕ → Type 0
ExtentIs before later n (Some extent) = (is_open later n ≡ false) × (extent ≡ extent_of (rows_of later) n)
ExtentIs before later n None = AtStep before later (λ steps. is_open steps n ≡ true)

-- the verdict, or that there was none at a step of the call
abbrev pub EndedIs : List Step → List Step → Option Verdict → Type 0
EndedIs before later (Some verdict) = (document_of later).ended ≡ Some verdict
EndedIs before later None = AtStep before later (λ steps. (document_of steps).ended ≡ None)

-- the bytes that are behind a reference, if one is given
abbrev pub part_of : Option (Bor (List ℕ)) → Option (List ℕ)
part_of None = None
part_of (Some part) = Some part.now

-- the texts of a row's name
abbrev pub name_of : Row → NameText
name_of row = record { prefix = row.prefix; uri = row.uri; local = row.local }
