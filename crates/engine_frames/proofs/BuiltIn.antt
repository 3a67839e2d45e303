-- The built-in rules, and the row of the node that has one.
use Rattle.std.proofs.Common.{◌≡◌, ap, ◌∙◌, ℕ, List, [], ◌∷◌, ◌++◌, length, reverse, false, cond, Some, None}
use Rattle.std.proofs.lemmas.Bool.{lt-ltb}
use Rattle.std.proofs.lemmas.List.{reverse-append}
use Rattle.doc_laws.proofs.Growth.{prefix_rows, row_at_grows}
use Rattle.doc_model.specs.Answers.{Known, Open, once_shut, with_faults}
use Rattle.doc_model.specs.Document.{is_parent}
use Rattle.doc_model.specs.Lawful.{Grows, IsJoined}
use Rattle.doc_model.specs.Rows.{row_at, rows_of}
use Rattle.doc_model.specs.Values.{texts_below, value_at, value_in, value_need}
use Rattle.doc_model.specs.declared.row.Kind.TheVariants as kind
use Rattle.doc_model.specs.declared.step.Step.{Step}
use Rattle.doc_model.specs.declared.strip_rule.StripRule.{StripRule}
use Rattle.engine_frames.specs.Opening.{built_in_so}
use Rattle.engine_meaning.specs.Places.{World}
use Rattle.engine_meaning.specs.Runs.{State, after, ask, emit, pure}
use Rattle.engine_meaning.specs.Sizes.{asks_size}
use Rattle.frame_meaning.proofs.Instructions.{with_event, with_unit}
use Rattle.frame_meaning.proofs.Opening as move
use Rattle.frame_meaning.specs.Apart.{under}
use Rattle.frame_meaning.specs.Rest.{rest}
use Rattle.frame_meaning.specs.Stand.{Stand, at_place}
use Rattle.frames.specs.Apart.{base}
use Rattle.frames.specs.declared.frame.Frame.{Frame}
use Rattle.key_sources.specs.Going.{Lookups, reading_by}
use Rattle.result_events.specs.declared.event.ResultEvent.TheVariants as event
use Rattle.sheet_ast.specs.declared.sheet.Sheet.{Sheet}
use Rattle.xpath_laws.specs.Sound.{IsThere}
use Rattle.xpath_meaning.specs.Outcome.{Outcome}
use Rattle.xpath_meaning.specs.Readings.{reading_of}

pub row_known : (lookups : Lookups) (rules : List StripRule) (steps : List Step) (n : ℕ) → IsThere rules steps n → (reading_by lookups rules steps).row n ≡ Known (row_at (rows_of steps) n)
unfolding reading_of
row_known lookups rules steps n t = ap (λ b. cond b (Known (row_at (rows_of steps) n)) (Open n)) (lt-ltb n (length (rows_of steps)) t.0)

-- of a row that is neither the root nor an element
pub value_known : (lookups : Lookups) (rules : List StripRule) (steps : List Step) (n : ℕ) → IsThere rules steps n → is_parent (row_at (rows_of steps) n).kind ≡ false
    → (reading_by lookups rules steps).value n ≡ Known (row_at (rows_of steps) n).value
unfolding reading_of
value_known lookups rules steps n t p =
    ap (λ b. with_faults (cond b (once_shut steps (value_need (rows_of steps) n) (value_in rules (rows_of steps) n)) (Open n))) (lt-ltb n (length (rows_of steps)) t.0)
    ∙ ap (λ b. with_faults (once_shut steps (cond b (Some n) None) (cond b (texts_below rules (rows_of steps) n) (value_at (rows_of steps) n)))) p

pub row_later : (before later : List Step) (n : ℕ) → Grows before later → IsJoined before n → row_at (rows_of later) n ≡ row_at (rows_of before) n
row_later before later n g j = let r = prefix_rows before later g in ap (λ rows. row_at rows n) r.1 ∙ row_at_grows (rows_of before) r.0 n j

module _ (sheet : Sheet) (w : World) (frames : List Frame) (h : Stand) (mode : ℕ) (s : State) where
  pub text_copied : (value : List ℕ) → w.reading.value h.place.context.node ≡ Known value
      → built_in_so sheet w frames h kind.Text mode (with_unit s) ≡ rest sheet w frames h (with_event s (event.Text value))
  unfolding emit
  text_copied value is = ap (λ (o : Outcome (List ℕ)). after (under (base frames) (after (after (ask o s) (λ value. emit (event.Text value))) (λ _. pure h))) (rest sheet w frames)) is

  pub streamed : asks_size sheet ≡ false
      → built_in_so sheet w frames h kind.Element mode (with_unit s) ≡ rest sheet w (move.stream_below sheet w frames h mode) (at_place h h.place.context []) s
  streamed sizes = move.children_left sheet w frames h mode s false sizes ∙ move.streams_so sheet w frames h mode s

pub last_first : {A : Type 0} (xs : List A) (x : A) → reverse (xs ++ x ∷ []) ≡ x ∷ reverse xs
last_first xs x = reverse-append xs (x ∷ [])
