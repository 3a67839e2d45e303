-- What a source begins with. The lines before are given with the latest first.
use Rattle.std.proofs.Common.{◌≡◌, List, [], ◌∷◌, ◌++◌, map, reverse, Result, Ok, None, false, refl, ap, sym, ◌∙◌, append_assoc}
use Rattle.std.proofs.lemmas.List.{reverse-append}
use Rattle.doc_model.specs.declared.limits.Limits.{Limits}
use Rattle.doc_model.specs.declared.step.Step.{Step}
use Rattle.pyx_lines.specs.declared.line.Line.{Line}
use Rattle.pyx_lines.specs.Lines.{Refusal}
use Rattle.pyx_events.specs.Flaw.{or_flaw, flaw_from, line_flaw}
use Rattle.pyx_events.specs.Nodes.{events_to, line_events}
use Rattle.pyx_events.specs.Steps.{bad_or, steps_of_events, steps_through, steps_from}
use Rattle.pyx_events.specs.Judged.{in_source}
use Rattle.dtm_builder.specs.Lines.{AreFlawless}
use Rattle.dtm_builder.proofs.Opening.{steps_join}

abbrev given : Line → Result Line Refusal
given line = Ok line

map_join : (xs ys : List Line) → map given (xs ++ ys) ≡ map given xs ++ map given ys
map_join [] ys = refl
map_join (x ∷ xs) ys = ap (λ all. given x ∷ all) (map_join xs ys)

-- the last line stands just before those that come later
last : (line : Line) (before : List Line) (later : List (Result Line Refusal)) → in_source (line ∷ before) ++ later ≡ in_source before ++ given line ∷ later
last line before later =
    ap (λ (all : List Line). map given all ++ later) (reverse-append (line ∷ []) before)
    ∙ ap (λ (all : List (Result Line Refusal)). all ++ later) (map_join (reverse before) (line ∷ []))
    ∙ append_assoc (in_source before) (given line ∷ []) later

pub flaw_begun : (limits : Limits) (before : List Line) (later : List (Result Line Refusal)) → AreFlawless limits before
    → flaw_from limits false [] (in_source before ++ later) ≡ flaw_from limits false before later
flaw_begun limits [] later f = refl
flaw_begun limits (line ∷ before) later f =
    ap (flaw_from limits false []) (last line before later)
    ∙ flaw_begun limits before (given line ∷ later) f.1
    ∙ ap (λ flaw. or_flaw flaw (flaw_from limits false (line ∷ before) later)) f.0

more : (limits : Limits) (before : List Line) (line : Line) (rest : List Step) → line_flaw limits false before line ≡ None
    → steps_of_events (events_to before) ++ bad_or (line_flaw limits false before line) (steps_of_events (line_events before line) ++ rest) ≡ steps_of_events (events_to (line ∷ before)) ++ rest
more limits before line rest h =
    ap (λ flaw. steps_of_events (events_to before) ++ bad_or flaw (steps_of_events (line_events before line) ++ rest)) h
    ∙ sym (append_assoc (steps_of_events (events_to before)) (steps_of_events (line_events before line)) rest)
    ∙ ap (λ all. all ++ rest) (sym (steps_join (events_to before) (line_events before line)))

pub steps_begun : (limits : Limits) (before : List Line) (later : List (Result Line Refusal)) → AreFlawless limits before
    → steps_from limits [] (in_source before ++ later) ≡ steps_of_events (events_to before) ++ steps_from limits before later
steps_begun limits [] later f = refl
steps_begun limits (line ∷ before) later f =
    ap (steps_from limits []) (last line before later)
    ∙ steps_begun limits before (given line ∷ later) f.1
    ∙ more limits before line (steps_from limits (line ∷ before) later) f.0

pub through_begun : (limits : Limits) (before : List Line) (later : List (Result Line Refusal)) → AreFlawless limits before
    → steps_through limits [] (in_source before ++ later) ≡ steps_of_events (events_to before) ++ steps_through limits before later
through_begun limits [] later f = refl
through_begun limits (line ∷ before) later f =
    ap (steps_through limits []) (last line before later)
    ∙ through_begun limits before (given line ∷ later) f.1
    ∙ more limits before line (steps_through limits (line ∷ before) later) f.0
