-- One line further: what a found line gives, and what refuses it.
use Rattle.std.proofs.Common.{◌≡◌, ℕ, ◌+◌, List, ◌∷◌, ◌++◌, Option, Some, None, Result, Ok, Err, IfOk, IfErr, IfSome, Bool, true, false, nat_le}
use Rattle.std.proofs.Common.{nat_lt, if◌then◌else◌, length, take, drop, refl, sym, subst, ap, ◌∙◌}
use Rattle.std.specs.Str.Lines.{strip_carriage_return}
use Rattle.pyx_lines.specs.declared.line.Line.{Line}
use Rattle.pyx_lines.specs.declared.line_error.LineError.{LineError}
use Rattle.pyx_lines.specs.Lines.{cut_lines, judged, judged_from, or_misspelled, Refusal, TooManyLines, LongLine}
use Rattle.pyx_lines.specs.Spelling.{line_of}
use Rattle.pyx_source.specs.declared.read_error.ReadError.{ReadError}
use Rattle.pyx_source.specs.declared.seeking.Found.TheVariants as found
use Rattle.pyx_source.specs.Finding.{CutsAt, IsHeld}
use Rattle.pyx_source.specs.Moving.{Moves}
use Rattle.pyx_source.proofs.MoveLemmas.{moved}
use Rattle.pyx_source.proofs.CutLemmas.{feed_parts}
use Rattle.pyx_source.specs.Reading.{Reading, IsSpelled, TakesNext, after_line, refusal_of, GivesLine, RefusesNext}

refuses_line : (old mid : Reading) (left left' : Option (List ℕ)) (at : ℕ) (refusal : Refusal) → CutsAt old.held left at mid.held left' → mid.line ≡ old.line →
    judged (mid.line + 1) (take at mid.held) ≡ Err refusal → RefusesNext old left refusal
refuses_line old mid None left' at refusal cut same is = tt
refuses_line old mid (Some xs) None at refusal cut same is = absurd cut
refuses_line old mid (Some xs) (Some ys) at refusal cut same is =
    let first : judged (old.line + 1) (take at mid.held) ≡ Err refusal = rw same at is in
    (judged_from (old.line + 1 + 1) (cut_lines (drop (at + 1) mid.held ++ ys)), rw (cut, first) refl)

pub step_refused : (old mid : Reading) (left left' : Option (List ℕ)) (at : ℕ) (result : Result (Option Line) ReadError) → CutsAt old.held left at mid.held left' → mid.line ≡ old.line →
    IfErr result (λ error. IfSome (refusal_of error) (λ refusal. judged (mid.line + 1) (take at mid.held) ≡ Err refusal)) →
    IfErr result (λ error. IfSome (refusal_of error) (λ refusal. RefusesNext old left refusal))
step_refused old mid left left' at (Ok given) cut same refused = tt
step_refused old mid left left' at (Err error) cut same refused = by_refusal (refusal_of error) refused
  where
    by_refusal : (refusal : Option Refusal) → IfSome refusal (λ it. judged (mid.line + 1) (take at mid.held) ≡ Err it) → IfSome refusal (λ it. RefusesNext old left it)
    by_refusal None is = tt
    by_refusal (Some it) is = refuses_line old mid left left' at it cut same is

spelled_by : (many long : Bool) (read : Result Line LineError) (line : Line) → (if many then Err TooManyLines else if long then Err LongLine else or_misspelled read) ≡ Ok line → read ≡ Ok line
spelled_by true long read line is = cc
spelled_by false true read line is = cc
spelled_by false false (Ok given) line is = cc
spelled_by false false (Err error) line is = cc

-- a line that is given is one that its bytes spell
pub step_spelled : (old new : Reading) (at : ℕ) (ended : Bool) (result : Result (Option Line) ReadError) → IfOk result (λ given. GivesLine old at ended given new) →
    IfOk result (λ given. IfSome given IsSpelled)
step_spelled old new at ended (Err error) gives = tt
step_spelled old new at ended (Ok None) gives = tt
step_spelled old new at ended (Ok (Some line)) gives =
    let bytes = strip_carriage_return (take at old.held) in
    (bytes, spelled_by (nat_le 4294967296 (old.line + 1)) (nat_lt 1048576 (length (take at old.held))) (line_of bytes) line gives.0)

takes_line : (old mid new : Reading) (left left' : Option (List ℕ)) (at : ℕ) (line : Line) → Moves old.held left mid.held left' → IsHeld (found.Line at) mid.held →
    new ≡ after_line mid at line false → TakesNext old left (Some line) new left'
takes_line old mid new None left' at line m held is = tt
takes_line old mid new (Some xs) None at line m held is = absurd m.taken
takes_line old mid new (Some xs) (Some ys) at line m held is = λ going.
    let rest : drop (at + 1) mid.held ≡ new.held = sym (ap (λ (reading : Reading). reading.held) is) in
    let all : old.held ++ xs ≡ take at mid.held ++ 10 ∷ (drop (at + 1) mid.held ++ ys) = moved old.held xs mid.held ys m ∙ feed_parts mid.held ys at held.0 held.1 in
    (take at mid.held, held.2, subst (λ (bytes : List ℕ). old.held ++ xs ≡ take at mid.held ++ 10 ∷ (bytes ++ ys)) rest all)

-- a line that is given is taken with its line feed
pub step_taken : (old mid new : Reading) (left left' : Option (List ℕ)) (at : ℕ) (result : Result (Option Line) ReadError) → Moves old.held left mid.held left' →
    IsHeld (found.Line at) mid.held → IfOk result (λ given. GivesLine mid at false given new) → IfOk result (λ given. TakesNext old left given new left')
step_taken old mid new left left' at (Err error) m held gives = tt
step_taken old mid new left left' at (Ok None) m held gives = absurd gives
step_taken old mid new left left' at (Ok (Some line)) m held gives = takes_line old mid new left left' at line m held gives.1
