-- What one more line, or a refusal, makes of what is to come.
use Rattle.std.proofs.Common.{◌≡◌, refl, sym, ap, ◌∙◌, subst, arith, ℕ, ◌+◌, ◌<◌, ◌≤◌, add-one, IsTrue, List, [], ◌∷◌, ◌++◌, Bool, true, false, length, Option, Some, None, IfSome, Result, Ok, Err}
use Rattle.std.specs.Result.{IsErrAnd, IfErr}
use Rattle.std.proofs.lemmas.Result.{err_from_is_err_and}
use Rattle.std.proofs.lemmas.Bool.{false≢true}
use Rattle.doc_model.specs.declared.flaw.Flaw.{Flaw}
use Rattle.doc_model.specs.declared.limits.Limits.{Limits}
use Rattle.pyx_lines.specs.declared.line.Line.{Line}
use Rattle.pyx_lines.specs.declared.line_error.LineError.TheVariants.{NotUtf8, UnknownLine, NoSpace, BadName, Memory as NoMemory}
use Rattle.pyx_lines.specs.Lines.{Refusal, cut_lines, judged_from, judged_lines}
use Rattle.pyx_source.specs.declared.read_error.ReadError.{ReadError}
use Rattle.pyx_source.specs.declared.read_error.ReadError.TheVariants as error
use Rattle.pyx_source.specs.Reading.{Reading, CountsNext, ahead_of, fresh, refusal_of, lines_by}
use Rattle.pyx_events.specs.declared.event.Event.{Event}
use Rattle.pyx_events.specs.declared.event_error.EventError.{EventError}
use Rattle.pyx_events.specs.declared.event_error.EventError.TheVariants.{Refused, Memory as Starved}
use Rattle.pyx_events.specs.Answer.{flaw_in as flaw_told}
use Rattle.pyx_events.specs.Checking.{Checking, HasRoom, Stands}
use Rattle.pyx_events.specs.Taken.{HasTaken}
use Rattle.pyx_events.specs.Flaw.{end_flaw, flaw_from, flaw_free_of, line_flaw, or_flaw, kind_of}
use Rattle.pyx_events.specs.Nodes.{line_events}
use Rattle.sheet_source.specs.declared.building.Building.{Building}
use Rattle.sheet_source.specs.declared.error.SourceStop.{SourceStop}
use Rattle.sheet_source.specs.declared.error.SourceStop.TheVariants.{Flawed, Memory}
use Rattle.sheet_source.specs.declared.tree.Document.{Document}
use Rattle.sheet_source.specs.Answers.{Answers}
use Rattle.sheet_source.specs.Building.{completed}
use Rattle.sheet_source.specs.Nodes.{document_of, events_from, sheet_limits, source_of, unless_flawed}
use Rattle.sheet_source.specs.Reading.{Carries, TakesLine, flaw_in, rest_of}
use Rattle.sheet_source.specs.Stops.{stop_at, stop_for}

-- before the first line
pub begins : (bytes : List ℕ) (building : Building) → ((events : List Event) → completed building events ≡ document_of events) → source_of bytes ≡ rest_of building [] (ahead_of fresh bytes)
unfolding source_of
begins bytes building is = ap (λ (document : Document). unless_flawed (flaw_free_of sheet_limits bytes) document) (sym (is (events_from [] (judged_lines bytes))))

-- a line without a flaw
pub rest_next : (old new : Building) (before : List Line) (line : Line) (later : List (Result Line Refusal)) → line_flaw sheet_limits true before line ≡ None
    → ((events : List Event) → completed new events ≡ completed old (line_events before line ++ events)) → rest_of old before (Ok line ∷ later) ≡ rest_of new (line ∷ before) later
rest_next old new before line later flawless taken =
    ap (λ (flaw : Option Flaw). unless_flawed (or_flaw flaw (flaw_from sheet_limits true (line ∷ before) later)) (completed old (events_from before (Ok line ∷ later)))) flawless
    ∙ ap (λ (document : Document). unless_flawed (flaw_from sheet_limits true (line ∷ before) later) document) (sym (taken (events_from (line ∷ before) later)))

-- a line with a flaw
pub rest_flawed : (building : Building) (before : List Line) (line : Line) (later : List (Result Line Refusal)) (flaw : Flaw) → line_flaw sheet_limits true before line ≡ Some flaw
    → rest_of building before (Ok line ∷ later) ≡ Err flaw
rest_flawed building before line later flaw is =
    ap (λ (it : Option Flaw). unless_flawed (or_flaw it (flaw_from sheet_limits true (line ∷ before) later)) (completed building (events_from before (Ok line ∷ later)))) is

refused : (meant : Result Document Flaw) (building : Building) (before : List Line) (ahead : List (Result Line Refusal)) (refusal : Refusal) (line : ℕ) → meant ≡ rest_of building before ahead
    → line ≡ length before + 1 → (later : List (Result Line Refusal)) × (ahead ≡ Err refusal ∷ later) → meant ≡ Err (record { line = line; kind = kind_of refusal })
refused meant building before ahead refusal line is at next =
    is ∙ ap (λ (lines : List (Result Line Refusal)). rest_of building before lines) next.1 ∙ ap (λ (n : ℕ). Err (record { line = n; kind = kind_of refusal })) (sym at)

-- the reader gives no line
pub stopped : (meant : Result Document Flaw) (building : Building) (before : List Line) (ahead : List (Result Line Refusal)) (cause : ReadError) (line : ℕ) → meant ≡ rest_of building before ahead
    → line ≡ length before + lines_by cause → IfSome (refusal_of cause) (λ refusal. (later : List (Result Line Refusal)) × (ahead ≡ Err refusal ∷ later))
    → Answers meant (Err (stop_at cause line))
stopped meant building before ahead error.Failed line is at next = tt
stopped meant building before ahead error.LongLine line is at next = refused meant building before ahead _ line is at next
stopped meant building before ahead error.TooManyLines line is at next = refused meant building before ahead _ line is at next
stopped meant building before ahead (error.Line NotUtf8) line is at next = refused meant building before ahead _ line is at next
stopped meant building before ahead (error.Line UnknownLine) line is at next = refused meant building before ahead _ line is at next
stopped meant building before ahead (error.Line NoSpace) line is at next = refused meant building before ahead _ line is at next
stopped meant building before ahead (error.Line BadName) line is at next = refused meant building before ahead _ line is at next
stopped meant building before ahead (error.Line NoMemory) line is at next = tt
stopped meant building before ahead error.Memory line is at next = tt

-- the checker refuses a line
pub line_stopped : (meant : Result Document Flaw) (building : Building) (before : List Line) (line : Line) (ahead later : List (Result Line Refusal)) (stop : SourceStop)
    → meant ≡ rest_of building before ahead
    → ahead ≡ Ok line ∷ later → IfSome (flaw_in stop) (λ flaw. line_flaw sheet_limits true before line ≡ Some flaw) → Answers meant (Err stop)
line_stopped meant building before line ahead later (Flawed flaw) is next flawed =
    is ∙ ap (λ (lines : List (Result Line Refusal)). rest_of building before lines) next ∙ rest_flawed building before line later flaw flawed
line_stopped meant building before line ahead later Memory is next flawed = tt

-- no line is left
nothing_ahead : (reading : Reading) (left : List ℕ) → reading.held ++ left ≡ [] → ahead_of reading left ≡ []
nothing_ahead reading left none = ap (λ (bytes : List ℕ). judged_from (reading.line + 1) (cut_lines bytes)) none

-- the checker takes another line
pub has_room : (checker : Checking) (before : List Line) (count : ℕ) → Stands sheet_limits checker before → length before < count → HasRoom count checker
has_room checker before count stands few = λ going.
    (before, subst (λ (limits : Limits). HasTaken limits checker.progress before) (sym stands.taken.nested.limits) stands.taken, few)

-- the first line is to come
pub carries_first : (bytes : List ℕ) (reading : Reading) (checker : Checking) (building : Building) → reading ≡ fresh → Stands sheet_limits checker []
    → ((events : List Event) → completed building events ≡ document_of events) → Carries bytes reading bytes checker building
carries_first bytes reading checker building is stands completes = record {
  before = [];
  going = ap (λ (it : Reading). it.refused) is;
  counted = ap (λ (it : Reading). it.line) is;
  few = subst (λ (it : Reading). it.line ≤ 4294967295) (sym is) (omega arith);
  over = λ ended. absurd (false≢true (subst (λ (it : Reading). IsTrue it.ended) is ended));
  stands = stands;
  rest = begins bytes building completes ∙ ap (λ (it : Reading). rest_of building [] (ahead_of it bytes)) (sym is);
}

-- a line was taken
pub carries_on : (bytes : List ℕ) (old new : Reading) (left left' : List ℕ) (checker checker' : Checking) (building building' : Building) (line : Line)
    (it : Carries bytes old left checker building) → TakesLine checker' building building' it.before line → ahead_of old left ≡ Ok line ∷ ahead_of new left'
    → CountsNext old (Some line) new → (IsTrue new.ended → (new.held ≡ []) × (left' ≡ [])) → Carries bytes new left' checker' building'
carries_on bytes old new left left' checker checker' building building' line it takes gives counts over = record {
  before = line ∷ it.before;
  going = counts.3;
  counted = counts.0 ∙ ap (λ (n : ℕ). n + 1) it.counted ∙ add-one (length it.before);
  few = counts.2;
  over = over;
  stands = takes.stands;
  rest = it.rest ∙ ap (λ (lines : List (Result Line Refusal)). rest_of building it.before lines) gives
      ∙ rest_next building building' it.before line (ahead_of new left') takes.flawless takes.taken;
}

-- no line is left
pub at_end : (bytes : List ℕ) (reading : Reading) (left : List ℕ) (checker : Checking) (building : Building) (it : Carries bytes reading left checker building)
    → reading.held ++ left ≡ [] → source_of bytes ≡ rest_of building it.before []
at_end bytes reading left checker building it none = it.rest ∙ ap (λ (lines : List (Result Line Refusal)). rest_of building it.before lines) (nothing_ahead reading left none)

-- a refusal of the checker has its flaw
pub same_flaw : (cause : EventError) (P : Flaw → Type 0) → IfSome (flaw_told cause) P → IfSome (flaw_in (stop_for cause)) P
same_flaw (Refused flaw completed) P is = is
same_flaw Starved P is = is

-- what holds of the refusal that is handed on holds of the answer
pub told : {A : Type 0} (r : Result A SourceStop) (e : SourceStop) (P : SourceStop → Type 0) → IsErrAnd r (λ s. s ≡ e) → P e → IfErr r P
told r e P h p = let q = err_from_is_err_and r h in subst (λ x. IfErr x P) (sym (q.1 ∙ ap Err q.2)) p

pub handed_on : {A : Type 0} (meant : Result A Flaw) (r : Result A SourceStop) (e : SourceStop) → IsErrAnd r (λ s. s ≡ e) → Answers meant (Err e) → Answers meant r
handed_on meant r e h a = let q = err_from_is_err_and r h in subst (λ x. Answers meant x) (sym (q.1 ∙ ap Err q.2)) a

-- the checker refuses the end
pub end_stopped : (building : Building) (before : List Line) (cause : EventError) → IfSome (flaw_told cause) (λ flaw. end_flaw sheet_limits true before ≡ Some flaw)
    → Answers (rest_of building before []) (Err (stop_for cause))
end_stopped building before (Refused flaw handed) is = ap (λ (it : Option Flaw). unless_flawed it (completed building [])) is
end_stopped building before Starved is = tt

-- the end has no flaw
pub end_flawless : (building : Building) (before : List Line) → end_flaw sheet_limits true before ≡ None → rest_of building before [] ≡ Ok (completed building [])
end_flawless building before is = ap (λ (it : Option Flaw). unless_flawed it (completed building [])) is

-- a reader that gives a line hasn't met the end
pub is_going : (ended : Bool) (r : Result (Option Line) ReadError) (line : Line) → r ≡ Ok (Some line) → (IsTrue ended → r ≡ Ok None) → ended ≡ false
is_going false r line is over = refl
is_going true r line is over = let none = over refl in absurd (cc)

-- nothing is left, whether the end was met now or before
pub nothing_left : (ended : Bool) (P : Type 0) → (ended ≡ false → P) → (IsTrue ended → P) → P
nothing_left false P now before = now refl
nothing_left true P now before = before refl
