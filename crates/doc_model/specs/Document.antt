-- What a list of steps has made: the rows, which of them are open, and the verdict.
use Rattle.std.specs.Prelude.{ℕ, List, [], ◌∷◌, ◌++◌, Bool, true, false, ◌||◌, ◌==◌, if◌then◌else◌, length, Option, Some, None}
use Rattle.doc_model.specs.declared.row.Kind.{Kind}
use Rattle.doc_model.specs.declared.row.Kind.TheVariants.{Root, Element, Attribute, Text, Instruction, Comment}
use Rattle.doc_model.specs.declared.row.Row.{Row}
use Rattle.doc_model.specs.declared.step.Step.{Step}
use Rattle.doc_model.specs.declared.step.Step.TheVariants.{Node, Shut, End}
use Rattle.doc_model.specs.declared.step.Verdict.{Verdict}
use Rattle.doc_model.specs.declared.step.Verdict.TheVariants.{Good, Bad, Failed, Starved, Upstream}
use Rattle.doc_model.specs.Rows.{root_row, rows_of}

-- whether a row of this kind may have children: the root and elements
abbrev pub is_parent : Kind → Bool
is_parent Root = true
is_parent Element = true
is_parent Attribute = false
is_parent Text = false
is_parent Instruction = false
is_parent Comment = false

abbrev pub is_attribute : Kind → Bool
is_attribute Root = false
is_attribute Element = false
is_attribute Attribute = true
is_attribute Text = false
is_attribute Instruction = false
is_attribute Comment = false

-- the rows in order; the numbers of the root and of the elements that are not shut, the innermost first; the verdict
pub record Document : Type 0 where
  pub rows : List Row
  pub opened : List ℕ
  pub ended : Option Verdict

-- before the first step: the root, which is open
abbrev pub start : Document
start = record { rows = root_row ∷ []; opened = 0 ∷ []; ended = None }

abbrev pub tail_of : List ℕ → List ℕ
tail_of [] = []
tail_of (n ∷ ns) = ns

-- what an End leaves open: nothing where the document is whole
abbrev pub open_after : Verdict → List ℕ → List ℕ
open_after Good opened = []
open_after (Bad flaw) opened = opened
open_after Failed opened = opened
open_after Starved opened = opened
open_after Upstream opened = opened

-- one more step: a Node adds its rows, and opens its row if that is an element; a Shut ends the innermost open row
abbrev pub after : Document → Step → Document
after d (Node row attributes) = record {
  rows = d.rows ++ row ∷ attributes;
  opened = if is_parent row.kind then length d.rows ∷ d.opened else d.opened;
  ended = d.ended;
}
after d Shut = record { rows = d.rows; opened = tail_of d.opened; ended = d.ended }
after d (End verdict) = record { rows = d.rows; opened = open_after verdict d.opened; ended = Some verdict }

abbrev pub document_from : Document → List Step → Document
document_from d [] = d
document_from d (step ∷ steps) = document_from (after d step) steps

-- what the steps have made, beginning with the root
abbrev pub document_of : List Step → Document
document_of steps = record (document_from start steps) { rows = rows_of steps }

abbrev pub is_member : ℕ → List ℕ → Bool
is_member n [] = false
is_member n (m ∷ ms) = (n == m) || is_member n ms

-- row n is the root or an element, and is not shut
abbrev pub is_open : List Step → ℕ → Bool
is_open steps n = is_member n (document_of steps).opened
