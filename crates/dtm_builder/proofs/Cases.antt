-- The lines of a test.
use Rattle.std.proofs.Common.{◌≡◌, ◌<◌, List, [], ◌∷◌, length, refl, sym, subst, arith}
use Rattle.doc_model.specs.declared.step.Step.{Step}
use Rattle.doc_model.specs.Rows.{rows_of}
use Rattle.pyx_lines.specs.declared.line.Line.{Line}
use Rattle.pyx_lines.specs.declared.line.Line.TheVariants.{Start, End, Instruction}
use Rattle.pyx_events.specs.Nodes.{events_to}
use Rattle.pyx_events.specs.Steps.{steps_of_events}
use Rattle.dtm_builder.specs.Lines.{IsReadable}
use Rattle.dtm_builder.proofs.Spelling.{ascii_text}

pub start_readable : IsReadable (Start (97 ∷ []))
start_readable = (refl, ascii_text (97 ∷ []) refl)

pub instruction_readable : IsReadable (Instruction (116 ∷ []) (100 ∷ []))
instruction_readable = (refl, ascii_text (116 ∷ []) refl, ascii_text (100 ∷ []) refl)

pub end_readable : IsReadable (End (97 ∷ []))
end_readable = (refl, ascii_text (97 ∷ []) refl)

pub three_rows : (start instruction end : Line) (steps : List Step) → start ≡ Start (97 ∷ []) → instruction ≡ Instruction (116 ∷ []) (100 ∷ []) → end ≡ End (97 ∷ [])
    → steps ≡ steps_of_events (events_to (end ∷ instruction ∷ start ∷ [])) → 2 < length (rows_of steps)
three_rows start instruction end steps s i e is =
    subst (λ (all : List Step). 2 < length (rows_of all)) (sym is)
    (subst (λ (line : Line). 2 < length (rows_of (steps_of_events (events_to (end ∷ instruction ∷ line ∷ []))))) (sym s)
    (subst (λ (line : Line). 2 < length (rows_of (steps_of_events (events_to (end ∷ line ∷ Start (97 ∷ []) ∷ []))))) (sym i)
    (subst (λ (line : Line). 2 < length (rows_of (steps_of_events (events_to (line ∷ Instruction (116 ∷ []) (100 ∷ []) ∷ Start (97 ∷ []) ∷ []))))) (sym e) (omega arith))))
