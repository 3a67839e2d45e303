-- What a source begins with, and what one without a flaw is. The lines before are given with the latest first.
use Rattle.std.proofs.Common.{◌≡◌, List, [], ◌∷◌, ◌++◌, Bool, map, reverse, Option, Some, None, Result, Ok, Err, refl, ap, sym, ◌∙◌, append_assoc}
use Rattle.std.proofs.lemmas.List.{reverse-append, append-nil}
use Rattle.doc_model.specs.declared.flaw.Flaw.{Flaw}
use Rattle.doc_model.specs.declared.limits.Limits.{Limits}
use Rattle.pyx_lines.specs.declared.line.Line.{Line}
use Rattle.pyx_lines.specs.Lines.{Refusal}
use Rattle.pyx_events.specs.Flaw.{or_flaw, flaw_from, line_flaw}
use Rattle.pyx_events.specs.Judged.{AreFlawless, IsFlawless, in_source}

abbrev given : Line → Result Line Refusal
given line = Ok line

map_join : (xs ys : List Line) → map given (xs ++ ys) ≡ map given xs ++ map given ys
map_join [] ys = refl
map_join (x ∷ xs) ys = ap (λ all. given x ∷ all) (map_join xs ys)

-- the last line stands just before those that come later
last : (line : Line) (before : List Line) (later : List (Result Line Refusal)) → in_source (line ∷ before) ++ later ≡ in_source before ++ given line ∷ later
last line before later =
    ap (λ (all : List Line). map given all ++ later) (reverse-append (line ∷ []) before)
    ∙ ap (λ (all : List (Result Line Refusal)). all ++ later) (map_join (reverse before) (line ∷ []))
    ∙ append_assoc (in_source before) (given line ∷ []) later

pub flaw_begun : (limits : Limits) (free : Bool) (before : List Line) (later : List (Result Line Refusal)) → AreFlawless limits free before
    → flaw_from limits free [] (in_source before ++ later) ≡ flaw_from limits free before later
flaw_begun limits free [] later f = refl
flaw_begun limits free (line ∷ before) later f =
    ap (flaw_from limits free []) (last line before later)
    ∙ flaw_begun limits free before (given line ∷ later) f.1
    ∙ ap (λ flaw. or_flaw flaw (flaw_from limits free (line ∷ before) later)) f.0

no_first : (f g : Option Flaw) → or_flaw f g ≡ None → f ≡ None
no_first None g h = refl
no_first (Some flaw) g h = absurd (cc)

no_later : (f g : Option Flaw) → or_flaw f g ≡ None → g ≡ None
no_later None g h = h
no_later (Some flaw) g h = absurd (cc)

whole_from : (limits : Limits) (free : Bool) (lines all : List (Result Line Refusal)) (before : List Line) → all ≡ in_source before ++ lines → AreFlawless limits free before
    → flaw_from limits free before lines ≡ None → IsFlawless limits free all
whole_from limits free [] all before same good none = record { before = before; all = same ∙ append-nil (in_source before); lines_good = good; end_good = none }
whole_from limits free (Err refusal ∷ lines) all before same good none = absurd (cc)
whole_from limits free (Ok line ∷ lines) all before same good none =
    let first = no_first (line_flaw limits free before line) (flaw_from limits free (line ∷ before) lines) none in
    let later = no_later (line_flaw limits free before line) (flaw_from limits free (line ∷ before) lines) none in
    whole_from limits free lines all (line ∷ before) (same ∙ sym (last line before lines)) (first, good) later

-- a source without a flaw
pub whole : (limits : Limits) (free : Bool) (lines : List (Result Line Refusal)) → flaw_from limits free [] lines ≡ None → IsFlawless limits free lines
whole limits free lines none = whole_from limits free lines lines [] refl tt none
