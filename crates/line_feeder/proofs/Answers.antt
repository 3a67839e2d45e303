-- What a feed answers, from what is answered of the line, of the source's end or of a refusal.
use Rattle.std.proofs.Common.{◌≡◌, ℕ, ◌+◌, List, [], ◌∷◌, ◌++◌, false, length, Option, Some, None, is_none, if◌then◌else◌, IfSome, Result, Ok, Err, refl, sym, ◌∙◌, ap, subst, append_assoc, append-nil}
use Rattle.std.specs.Io.KnownBytes.{IsAtEnd}
use Rattle.doc_model.specs.declared.flaw.Flaw.{Flaw}
use Rattle.doc_model.specs.declared.flaw.FlawKind.{FlawKind}
use Rattle.doc_model.specs.Cells.{Cells}
use Rattle.doc_model.specs.Lawful.{Grows}
use Rattle.doc_model.specs.declared.limits.Limits.{Limits}
use Rattle.doc_model.specs.declared.step.Step.{Step}
use Rattle.doc_model.specs.declared.step.Step.TheVariants.{End}
use Rattle.doc_model.specs.declared.step.Verdict.TheVariants.{Bad, Starved}
use Rattle.pyx_lines.specs.declared.line.Line.{Line}
use Rattle.pyx_lines.specs.Lines.{Refusal}
use Rattle.pyx_lines.specs.declared.line_error.LineError.TheVariants.{NotUtf8, UnknownLine, NoSpace, BadName, Memory as NoMemory}
use Rattle.pyx_source.specs.declared.read_error.ReadError.{ReadError}
use Rattle.pyx_source.specs.declared.read_error.ReadError.TheVariants as error
use Rattle.pyx_source.specs.Reading.{refusal_of, lines_by}
use Rattle.pyx_events.specs.Flaw.{line_flaw, kind_of}
use Rattle.pyx_events.specs.Nodes.{events_to, line_events}
use Rattle.pyx_events.specs.Steps.{steps_of, steps_from, steps_of_events, bad_or}
use Rattle.dtm_builder.specs.Lines.{AreFlawless, line_steps}
use Rattle.dtm_builder.specs.Standing as building
use Rattle.dtm_builder.specs.declared.builder.Builder.{Builder}
use Rattle.dtm_builder.specs.declared.build_error.BuildError.{BuildError}
use Rattle.dtm_builder.specs.declared.build_error.BuildError.TheVariants.{Refused, Memory as Starved_out}
use Rattle.line_feeder.specs.declared.fed.Fed.{Fed}
use Rattle.line_feeder.specs.declared.fed.Fed.TheVariants.{Line as Fed_Line, Ended, Flawed, Failed, Memory}
use Rattle.line_feeder.specs.Answering.{LineIs, EndIs, FeedIs, EndsStarved, answer_to, verdict_for}
use Rattle.line_feeder.specs.Feeding.{IsWhole, Starves, WasReadSo, for_good}
use Rattle.line_feeder.proofs.Cuts.{Comes, ComesNext, ComesSome}
use Rattle.line_feeder.proofs.Sources.{BeginsSources, Begins, begins, whole_end, whole_end_flaw, whole_line_flaw, whole_refusal}

-- the steps that were due come first in all that is to come
abbrev Due : Limits → List Line → List (Result Line Refusal) → List Step → Type 0
Due limits lines later due = (rest : List Step) × (due ++ rest ≡ steps_from limits lines later)

due_line : (limits : Limits) (lines : List Line) (line : Line) (later : List (Result Line Refusal)) → Due limits lines (Ok line ∷ later) (line_steps limits lines line)
due_line limits lines line later = by_flaw (line_flaw limits false lines line)
  where
    by_flaw : (flaw : Option Flaw)
        → (rest : List Step) × ((if is_none flaw then steps_of_events (line_events lines line) else []) ++ rest
        ≡ bad_or flaw (steps_of_events (line_events lines line) ++ steps_from limits (line ∷ lines) later))
    by_flaw None = (steps_from limits (line ∷ lines) later, refl)
    by_flaw (Some flaw) = (End (Bad flaw) ∷ [], refl)

due_none : (limits : Limits) (lines : List Line) (later : List (Result Line Refusal)) → Due limits lines later []
due_none limits lines later = (steps_from limits lines later, refl)

starved_at : (limits : Limits) (bytes : List ℕ) (lines : List Line) (later : List (Result Line Refusal)) (due old made left : List Step) → Begins limits bytes lines later → Due limits lines later due
    → old ≡ steps_of_events (events_to lines) → made ++ left ≡ due → (rest : List Step) × ((old ++ made) ++ rest ≡ steps_of limits bytes)
starved_at limits bytes lines later due old made left b d from parts =
    let front : made ++ (left ++ d.0) ≡ steps_from limits lines later = sym (append_assoc made left d.0) ∙ ap (λ (steps : List Step). steps ++ d.0) parts ∙ d.1 in
    (left ++ d.0, append_assoc old made (left ++ d.0) ∙ ap (λ (steps : List Step). old ++ steps) front ∙ ap (λ (steps : List Step). steps ++ steps_from limits lines later) from ∙ sym b.steps)

starves : (limits : Limits) (told : Option (List ℕ)) (lines : List Line) (due old new : List Step) → AreFlawless limits lines → old ≡ steps_of_events (events_to lines)
    → IfSome told (λ bytes. (later : List (Result Line Refusal)) × (Begins limits bytes lines later × Due limits lines later due)) → EndsStarved due old new → Starves limits told old new
starves limits told lines due old new f from comes ends = record { made = ends.0; steps = ends.3; due = by_told told comes }
  where
    by_told : (told : Option (List ℕ)) → IfSome told (λ bytes. (later : List (Result Line Refusal)) × (Begins limits bytes lines later × Due limits lines later due))
        → IfSome told (λ bytes. (rest : List Step) × ((old ++ ends.0) ++ rest ≡ steps_of limits bytes))
    by_told None it = tt
    by_told (Some bytes) it = starved_at limits bytes lines it.0 due old ends.0 ends.1 it.1.0 it.1.1 from ends.2

-- a line was read
pub line_fed : BeginsSources → (limits : Limits) (told left : Option (List ℕ)) (lines : List Line) (line : Line) (old new : List Step) (fed : Fed) → AreFlawless limits lines
    → old ≡ steps_of_events (events_to lines)
    → ComesNext told lines (Ok line) → LineIs limits lines line old new fed → FeedIs limits told left lines old new fed
line_fed law limits told left lines line old new Fed_Line f from comes is = tt
line_fed law limits told left lines line old new Ended f from comes is = absurd is
line_fed law limits told left lines line old new (Flawed flaw) f from comes is = record { steps = is.1; whole = by_told told comes }
  where
    by_told : (told : Option (List ℕ)) → ComesNext told lines (Ok line) → IfSome told (λ bytes. IsWhole limits bytes lines (Some flaw) new)
    by_told None it = tt
    by_told (Some bytes) it = whole_line_flaw limits bytes lines line it.0 flaw old new (begins law limits bytes lines (Ok line ∷ it.0) it.1 f) is.0 from is.1
line_fed law limits told left lines line old new Failed f from comes is = absurd is
line_fed law limits told left lines line old new Memory f from comes is = starves limits told lines (line_steps limits lines line) old new f from (by_told told comes) is
  where
    by_told : (told : Option (List ℕ)) → ComesNext told lines (Ok line)
        → IfSome told (λ bytes. (later : List (Result Line Refusal)) × (Begins limits bytes lines later × Due limits lines later (line_steps limits lines line)))
    by_told None it = tt
    by_told (Some bytes) it = (Ok line ∷ it.0, (begins law limits bytes lines (Ok line ∷ it.0) it.1 f, due_line limits lines line it.0))

-- the source's end was met
pub end_fed : BeginsSources → (limits : Limits) (told left : Option (List ℕ)) (lines : List Line) (old new : List Step) (fed : Fed) → AreFlawless limits lines → old ≡ steps_of_events (events_to lines)
    → Comes told lines [] → IsAtEnd left → EndIs limits lines old new fed → FeedIs limits told left lines old new fed
end_fed law limits told left lines old new Fed_Line f from comes end is = absurd is
end_fed law limits told left lines old new Ended f from comes end is = record { end = end; flawless = is.0; steps = is.1; whole = by_told told comes }
  where
    by_told : (told : Option (List ℕ)) → Comes told lines [] → IfSome told (λ bytes. IsWhole limits bytes lines None new)
    by_told None it = tt
    by_told (Some bytes) it = whole_end limits bytes lines old new (begins law limits bytes lines [] it f) is.0 from is.1
end_fed law limits told left lines old new (Flawed flaw) f from comes end is = record { steps = is.1; whole = by_told told comes }
  where
    by_told : (told : Option (List ℕ)) → Comes told lines [] → IfSome told (λ bytes. IsWhole limits bytes lines (Some flaw) new)
    by_told None it = tt
    by_told (Some bytes) it = whole_end_flaw limits bytes lines flaw old new (begins law limits bytes lines [] it f) is.0 from is.1
end_fed law limits told left lines old new Failed f from comes end is = absurd is
end_fed law limits told left lines old new Memory f from comes end is = starves limits told lines [] old new f from (by_told told comes) is
  where
    by_told : (told : Option (List ℕ)) → Comes told lines [] → IfSome told (λ bytes. (later : List (Result Line Refusal)) × (Begins limits bytes lines later × Due limits lines later []))
    by_told None it = tt
    by_told (Some bytes) it = ([], (begins law limits bytes lines [] it f, due_none limits lines []))

-- the reader refused a line
refused : BeginsSources → (limits : Limits) (told left : Option (List ℕ)) (lines : List Line) (refusal : Refusal) (kind : FlawKind) (line : ℕ) (old new : List Step)
    → AreFlawless limits lines → old ≡ steps_of_events (events_to lines)
    → kind_of refusal ≡ kind → line ≡ length lines + 1 → ComesNext told lines (Err refusal) → new ≡ old ++ End (Bad (record { line = line; kind = kind })) ∷ []
    → FeedIs limits told left lines old new (Flawed (record { line = line; kind = kind }))
refused law limits told left lines refusal kind line old new f from spelled at comes to = record { steps = to; whole = by_told told comes }
  where
    flaw : Flaw
    flaw = record { line = line; kind = kind }

    by_told : (told : Option (List ℕ)) → ComesNext told lines (Err refusal) → IfSome told (λ bytes. IsWhole limits bytes lines (Some (record { line = line; kind = kind })) new)
    by_told None it = tt
    by_told (Some bytes) it = whole_refusal limits bytes lines refusal it.0 (record { line = line; kind = kind }) old new
        (begins law limits bytes lines (Err refusal ∷ it.0) it.1 f) (rw (at, spelled) refl) from to

no_memory : BeginsSources → (limits : Limits) (told left : Option (List ℕ)) (lines : List Line) (old new : List Step) → AreFlawless limits lines
    → old ≡ steps_of_events (events_to lines) → ComesSome told lines
    → new ≡ old ++ End Starved ∷ [] → FeedIs limits told left lines old new Memory
no_memory law limits told left lines old new f from comes to =
    starves limits told lines [] old new f from (by_told told comes) ([], [], refl, to ∙ ap (λ (steps : List Step). steps ++ End Starved ∷ []) (sym (append-nil old)))
  where
    by_told : (told : Option (List ℕ)) → ComesSome told lines → IfSome told (λ bytes. (later : List (Result Line Refusal)) × (Begins limits bytes lines later × Due limits lines later []))
    by_told None it = tt
    by_told (Some bytes) it = (it.0, (begins law limits bytes lines it.0 it.1 f, due_none limits lines it.0))

-- the reader gave no line
pub stop_fed : BeginsSources → (limits : Limits) (told left : Option (List ℕ)) (lines : List Line) (cause : ReadError) (line : ℕ) (old new : List Step) → AreFlawless limits lines
    → old ≡ steps_of_events (events_to lines)
    → ComesSome told lines → IfSome (refusal_of cause) (λ refusal. ComesNext told lines (Err refusal)) → (cause ≡ error.Failed → WasReadSo limits told left lines)
    → line ≡ length lines + lines_by cause → new ≡ old ++ End (verdict_for (answer_to cause line)) ∷ [] → FeedIs limits told left lines old new (answer_to cause line)
stop_fed law limits told left lines error.Failed line old new f from some next read at to = record { steps = to; read = read refl }
stop_fed law limits told left lines error.LongLine line old new f from some next read at to = refused law limits told left lines _ _ line old new f from refl at next to
stop_fed law limits told left lines error.TooManyLines line old new f from some next read at to = refused law limits told left lines _ _ line old new f from refl at next to
stop_fed law limits told left lines (error.Line NotUtf8) line old new f from some next read at to = refused law limits told left lines _ _ line old new f from refl at next to
stop_fed law limits told left lines (error.Line UnknownLine) line old new f from some next read at to = refused law limits told left lines _ _ line old new f from refl at next to
stop_fed law limits told left lines (error.Line NoSpace) line old new f from some next read at to = refused law limits told left lines _ _ line old new f from refl at next to
stop_fed law limits told left lines (error.Line BadName) line old new f from some next read at to = refused law limits told left lines _ _ line old new f from refl at next to
stop_fed law limits told left lines (error.Line NoMemory) line old new f from some next read at to = no_memory law limits told left lines old new f from some to
stop_fed law limits told left lines error.Memory line old new f from some next read at to = no_memory law limits told left lines old new f from some to

-- the same limits under another name
pub stands_at : (builder : Builder) (cells : Cells) (lines : List Line) (limits limits' : Limits) → limits ≡ limits' → building.Stands builder limits cells lines
    → building.Stands builder limits' cells lines
stands_at builder cells lines limits limits' same stands = subst (λ (it : Limits). building.Stands builder it cells lines) same stands

pub none_of : (answer : Option Fed) → ((fed : Fed) → answer ≡ Some fed → ⊥) → answer ≡ None
none_of None other = refl
none_of (Some fed) other = absurd (other fed refl)

-- an answer that is given for good is kept
pub kept_for_good : (answer : Option Fed) (fed : Fed) → answer ≡ Some fed → (answer ≡ Some Fed_Line → ⊥) → answer ≡ for_good fed
kept_for_good answer Fed_Line is lasting = absurd (lasting is)
kept_for_good answer Ended is lasting = is
kept_for_good answer (Flawed flaw) is lasting = is
kept_for_good answer Failed is lasting = is
kept_for_good answer Memory is lasting = is

pub going_on : (fed : Fed) → for_good fed ≡ None → fed ≡ Fed_Line
going_on Fed_Line is = refl
going_on Ended is = cc
going_on (Flawed flaw) is = cc
going_on Failed is = cc
going_on Memory is = cc

-- a refusal of the builder only adds steps
pub refuses_grows : (old due new : List Step) (error : BuildError) → building.Refuses old due new error → Grows old new
refuses_grows old due new (Refused flaw) is = (_, sym is)
refuses_grows old due new Starved_out is = (is.0 ++ End Starved ∷ [], sym (append_assoc old is.0 (End Starved ∷ [])) ∙ sym is.3)
