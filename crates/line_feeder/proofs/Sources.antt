-- What is known of a source that begins with these lines, none of which has a flaw.
use Rattle.std.proofs.Common.{◌≡◌, ℕ, ◌+◌, ◌<◌, List, [], ◌∷◌, ◌++◌, false, length, map, reverse, take, Option, Some, None, is_some, if◌then◌else◌}
use Rattle.std.proofs.Common.{Result, Ok, Err, refl, sym, ◌∙◌, ap, arith, append_assoc, append-nil, zero-add}
use Rattle.std.proofs.lemmas.List.{reverse-append, map-append, length-map, length-reverse}
use Rattle.std.proofs.Math.Seq.{take-append_seam}
use Rattle.doc_model.specs.declared.flaw.Flaw.{Flaw}
use Rattle.doc_model.specs.declared.limits.Limits.{Limits}
use Rattle.doc_model.specs.declared.step.Step.{Step}
use Rattle.doc_model.specs.declared.step.Step.TheVariants.{End}
use Rattle.doc_model.specs.declared.step.Verdict.TheVariants.{Good, Bad}
use Rattle.pyx_lines.specs.declared.line.Line.{Line}
use Rattle.pyx_lines.specs.Lines.{Refusal, judged_lines}
use Rattle.pyx_events.specs.declared.event.Event.{Event}
use Rattle.pyx_events.specs.declared.event.Event.TheVariants.{Node, Shut}
use Rattle.pyx_events.specs.Flaw.{flaw_of, flaw_from, line_flaw, end_flaw, or_flaw, kind_of}
use Rattle.pyx_events.specs.Nodes.{events_to, line_events}
use Rattle.pyx_events.specs.Steps.{steps_of, steps_from, steps_to, steps_through, steps_of_events, bad_or}
use Rattle.pyx_events.specs.Judged.{in_source}
use Rattle.dtm_builder.specs.Lines.{AreFlawless}
use Rattle.line_feeder.specs.Feeds.{feeds_of, feeds_from}
use Rattle.line_feeder.specs.Feeding.{IsWhole, HoldsNoEnd}

-- what a source begins with, if these lines are its first and none of them has a flaw, as the builder's crate says it
pub record BeginsSources : Type 0 where
  pub flaw : (limits : Limits) (before : List Line) (later : List (Result Line Refusal)) → AreFlawless limits before
      → flaw_from limits false [] (in_source before ++ later) ≡ flaw_from limits false before later
  pub steps : (limits : Limits) (before : List Line) (later : List (Result Line Refusal)) → AreFlawless limits before
      → steps_from limits [] (in_source before ++ later) ≡ steps_of_events (events_to before) ++ steps_from limits before later
  pub through : (limits : Limits) (before : List Line) (later : List (Result Line Refusal)) → AreFlawless limits before
      → steps_through limits [] (in_source before ++ later) ≡ steps_of_events (events_to before) ++ steps_through limits before later

abbrev given : Line → Result Line Refusal
given line = Ok line

-- the last line stands just before those that come later
pub one_more : (line : Line) (before : List Line) (later : List (Result Line Refusal)) → in_source (line ∷ before) ++ later ≡ in_source before ++ Ok line ∷ later
one_more line before later =
    ap (λ (all : List Line). map given all ++ later) (reverse-append (line ∷ []) before)
    ∙ ap (λ (all : List (Result Line Refusal)). all ++ later) (map-append given (reverse before) (line ∷ []))
    ∙ append_assoc (in_source before) (Ok line ∷ []) later

feeds_after : (limits : Limits) (before : List Line) (line : Line) (later : List (Result Line Refusal)) → line_flaw limits false before line ≡ None
    → feeds_from limits before (Ok line ∷ later) ≡ feeds_from limits (line ∷ before) later + 1
feeds_after limits before line later is = ap (λ (flaw : Option Flaw). if is_some flaw then 1 else feeds_from limits (line ∷ before) later + 1) is

feeds_begun : (limits : Limits) (before : List Line) (later : List (Result Line Refusal)) → AreFlawless limits before
    → feeds_from limits [] (in_source before ++ later) ≡ length before + feeds_from limits before later
feeds_begun limits [] later f = sym (zero-add (feeds_from limits [] later))
feeds_begun limits (line ∷ before) later f =
    let rest = feeds_begun limits before (Ok line ∷ later) f.1 in
    let next = feeds_after limits before line later f.0 in
    let sum : length before + feeds_from limits before (Ok line ∷ later) ≡ length (line ∷ before) + feeds_from limits (line ∷ before) later = omega (arith, next) in
    ap (feeds_from limits []) (one_more line before later) ∙ rest ∙ sum

-- the first flaw, the steps and the feeds of these bytes, by what comes after the lines
pub record Begins (limits : Limits) (bytes : List ℕ) (lines : List Line) (later : List (Result Line Refusal)) : Type 0 where
  pub flaw : flaw_of limits bytes ≡ flaw_from limits false lines later
  pub steps : steps_of limits bytes ≡ steps_of_events (events_to lines) ++ steps_from limits lines later
  pub feeds : feeds_of limits bytes ≡ length lines + feeds_from limits lines later

pub begins : BeginsSources → (limits : Limits) (bytes : List ℕ) (lines : List Line) (later : List (Result Line Refusal)) → judged_lines bytes ≡ in_source lines ++ later
    → AreFlawless limits lines → Begins limits bytes lines later
begins law limits bytes lines later is f = record {
  flaw = ap (flaw_from limits false []) is ∙ law.flaw limits lines later f;
  steps = ap (steps_from limits []) is ∙ law.steps limits lines later f;
  feeds = ap (feeds_from limits []) is ∙ feeds_begun limits lines later f;
}

-- the source ends here, and has no flaw
pub whole_end : (limits : Limits) (bytes : List ℕ) (lines : List Line) (old new : List Step) → Begins limits bytes lines [] → end_flaw limits false lines ≡ None
    → old ≡ steps_of_events (events_to lines) → new ≡ old ++ End Good ∷ [] → IsWhole limits bytes lines None new
whole_end limits bytes lines old new b is from to = record {
  first = b.flaw ∙ is;
  all = b.steps ∙ ap (λ (flaw : Option Flaw). steps_of_events (events_to lines) ++ bad_or flaw (End Good ∷ [])) is ∙ ap (λ (steps : List Step). steps ++ End Good ∷ []) (sym from) ∙ sym to;
  found = b.feeds;
}

whole_by : (limits : Limits) (bytes : List ℕ) (lines : List Line) (later : List (Result Line Refusal)) (flaw : Flaw) (old new : List Step) → Begins limits bytes lines later
    → flaw_from limits false lines later ≡ Some flaw → steps_from limits lines later ≡ End (Bad flaw) ∷ [] → feeds_from limits lines later ≡ 1
    → old ≡ steps_of_events (events_to lines) → new ≡ old ++ End (Bad flaw) ∷ [] → IsWhole limits bytes lines (Some flaw) new
whole_by limits bytes lines later flaw old new b is ends feeds from to = record {
  first = b.flaw ∙ is;
  all = b.steps ∙ ap (λ (steps : List Step). steps_of_events (events_to lines) ++ steps) ends ∙ ap (λ (steps : List Step). steps ++ End (Bad flaw) ∷ []) (sym from) ∙ sym to;
  found = b.feeds ∙ ap (λ (n : ℕ). length lines + n) feeds;
}

-- the end has this flaw
pub whole_end_flaw : (limits : Limits) (bytes : List ℕ) (lines : List Line) (flaw : Flaw) (old new : List Step) → Begins limits bytes lines [] → end_flaw limits false lines ≡ Some flaw
    → old ≡ steps_of_events (events_to lines) → new ≡ old ++ End (Bad flaw) ∷ [] → IsWhole limits bytes lines (Some flaw) new
whole_end_flaw limits bytes lines flaw old new b is from to =
    whole_by limits bytes lines [] flaw old new b is (ap (λ (flaw : Option Flaw). bad_or flaw (End Good ∷ [])) is) refl from to

-- the next line has this flaw
pub whole_line_flaw : (limits : Limits) (bytes : List ℕ) (lines : List Line) (line : Line) (later : List (Result Line Refusal)) (flaw : Flaw) (old new : List Step)
    → Begins limits bytes lines (Ok line ∷ later)
    → line_flaw limits false lines line ≡ Some flaw → old ≡ steps_of_events (events_to lines) → new ≡ old ++ End (Bad flaw) ∷ [] → IsWhole limits bytes lines (Some flaw) new
whole_line_flaw limits bytes lines line later flaw old new b is from to =
    whole_by limits bytes lines (Ok line ∷ later) flaw old new b
    (ap (λ (it : Option Flaw). or_flaw it (flaw_from limits false (line ∷ lines) later)) is)
    (ap (λ (it : Option Flaw). bad_or it (steps_of_events (line_events lines line) ++ steps_from limits (line ∷ lines) later)) is)
    (ap (λ (it : Option Flaw). if is_some it then 1 else feeds_from limits (line ∷ lines) later + 1) is)
    from to

-- the next line is refused
pub whole_refusal : (limits : Limits) (bytes : List ℕ) (lines : List Line) (refusal : Refusal) (later : List (Result Line Refusal)) (flaw : Flaw) (old new : List Step)
    → Begins limits bytes lines (Err refusal ∷ later)
    → flaw ≡ record { line = length lines + 1; kind = kind_of refusal } → old ≡ steps_of_events (events_to lines) → new ≡ old ++ End (Bad flaw) ∷ [] → IsWhole limits bytes lines (Some flaw) new
whole_refusal limits bytes lines refusal later flaw old new b is from to =
    whole_by limits bytes lines (Err refusal ∷ later) flaw old new b (ap (λ (it : Flaw). Some it) (sym is)) (ap (λ (it : Flaw). End (Bad it) ∷ []) (sym is)) refl from to

-- the last feed is still to come
pub some_feed : (limits : Limits) (before : List Line) (later : List (Result Line Refusal)) → 0 < feeds_from limits before later
some_feed limits before [] = omega arith
some_feed limits before (Err refusal ∷ later) = omega arith
some_feed limits before (Ok line ∷ later) = by_flaw (line_flaw limits false before line)
  where
    by_flaw : (flaw : Option Flaw) → 0 < (if is_some flaw then 1 else feeds_from limits (line ∷ before) later + 1)
    by_flaw None = omega arith
    by_flaw (Some flaw) = omega arith

pub going : (limits : Limits) (bytes : List ℕ) (lines : List Line) (later : List (Result Line Refusal)) → Begins limits bytes lines later → length lines < feeds_of limits bytes
going limits bytes lines later b = let some = some_feed limits lines later in omega (arith, b.feeds, some)

count_given : (lines : List Line) → length (in_source lines) ≡ length lines
count_given lines = length-map (reverse lines) given ∙ length-reverse lines

-- the steps of as many of its first lines
pub steps_given : BeginsSources → (limits : Limits) (bytes : List ℕ) (lines : List Line) (later : List (Result Line Refusal)) → judged_lines bytes ≡ in_source lines ++ later → AreFlawless limits lines
    → steps_to limits bytes (length lines) ≡ steps_of_events (events_to lines)
steps_given law limits bytes lines later is f =
    let front : take (length lines) (judged_lines bytes) ≡ in_source lines =
    ap (λ (all : List (Result Line Refusal)). take (length lines) all) is
    ∙ ap (λ (n : ℕ). take n (in_source lines ++ later)) (sym (count_given lines))
    ∙ take-append_seam (in_source lines) later in
    ap (steps_through limits []) (front ∙ sym (append-nil (in_source lines))) ∙ law.through limits lines [] f ∙ append-nil (steps_of_events (events_to lines))

-- no line gives an End
pub no_end : (events : List Event) → HoldsNoEnd (steps_of_events events)
no_end [] = refl
no_end (Node row attributes declarations uris line ∷ events) = no_end events
no_end (Shut ∷ events) = no_end events
