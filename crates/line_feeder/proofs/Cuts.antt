-- What a reader of lines has of its source after each answer.
use Rattle.std.proofs.Common.{◌≡◌, inl, inr, ◌==◌, ℕ, ◌+◌, ◌≤◌, List, [], ◌∷◌, ◌++◌, Bool, true, false, if◌then◌else◌, IsTrue, length, Option, Some}
use Rattle.std.proofs.Common.{None, IfSome, Result, Ok, Err, refl, sym, ◌∙◌, ap, subst, arith, append_assoc}
use Rattle.std.specs.List.{count_by}
use Rattle.std.specs.Io.KnownBytes.{IsAtEnd}
use Rattle.std.proofs.lemmas.Bool.Decides.{nat_tests}
use Rattle.std.proofs.lemmas.List.Sums.{sum_by-append}
use Rattle.doc_model.specs.declared.limits.Limits.{Limits}
use Rattle.pyx_lines.specs.declared.line.Line.{Line}
use Rattle.pyx_lines.specs.Lines.{Refusal, judged_lines, judged_from, cut_lines}
use Rattle.pyx_source.specs.declared.read_error.ReadError.{ReadError}
use Rattle.pyx_source.specs.Feeds.{HoldsNoFeed}
use Rattle.pyx_source.specs.Moving.{Moves, ReadsOnlyForALine}
use Rattle.pyx_source.specs.Reading.{Reading, fresh, ahead_of, GivesNext, TakesNext, RefusesNext}
use Rattle.pyx_events.specs.Nodes.{events_to}
use Rattle.pyx_events.specs.Steps.{steps_of_events, steps_to}
use Rattle.pyx_events.specs.Judged.{in_source}
use Rattle.dtm_builder.specs.Lines.{AreFlawless}
use Rattle.line_feeder.specs.Feeding.{WasReadSo, HoldsNoEnd}
use Rattle.line_feeder.specs.Reads.{is_feed, HasReadFor, IsAsked}
use Rattle.line_feeder.specs.Standing.{HasGiven, HasRead}
use Rattle.line_feeder.proofs.Sources.{BeginsSources, one_more, steps_given, no_end}

-- where the source told its bytes, its lines are these and then those to come
abbrev pub Comes : Option (List ℕ) → List Line → List (Result Line Refusal) → Type 0
Comes told lines later = IfSome told (λ bytes. judged_lines bytes ≡ in_source lines ++ later)

-- the same with some lines after the next
abbrev pub ComesNext : Option (List ℕ) → List Line → Result Line Refusal → Type 0
ComesNext told lines next = IfSome told (λ bytes. (later : List (Result Line Refusal)) × (judged_lines bytes ≡ in_source lines ++ next ∷ later))

-- the same with some lines
abbrev pub ComesSome : Option (List ℕ) → List Line → Type 0
ComesSome told lines = IfSome told (λ bytes. (later : List (Result Line Refusal)) × (judged_lines bytes ≡ in_source lines ++ later))

pub some_come : (reading : Reading) (told left : Option (List ℕ)) (lines : List Line) → HasRead reading told left lines → ComesSome told lines
some_come reading None left lines h = tt
some_come reading (Some bytes) None lines h = absurd h
some_come reading (Some bytes) (Some xs) lines h = (ahead_of reading xs, h.rest)

pub line_comes : (old new : Reading) (told left left' : Option (List ℕ)) (line : Line) (lines : List Line) → HasRead old told left lines → GivesNext old left (Some line) new left'
    → ComesNext told lines (Ok line)
line_comes old new None left left' line lines h gives = tt
line_comes old new (Some bytes) None left' line lines h gives = absurd h
line_comes old new (Some bytes) (Some xs) None line lines h gives = absurd gives
line_comes old new (Some bytes) (Some xs) (Some ys) line lines h gives = (ahead_of new ys, h.rest ∙ ap (λ (later : List (Result Line Refusal)). in_source lines ++ later) gives)

pub refusal_comes : (old : Reading) (told left : Option (List ℕ)) (refusal : Refusal) (lines : List Line) → HasRead old told left lines → RefusesNext old left refusal
    → ComesNext told lines (Err refusal)
refusal_comes old None left refusal lines h refuses = tt
refusal_comes old (Some bytes) None refusal lines h refuses = absurd h
refusal_comes old (Some bytes) (Some xs) refusal lines h refuses = (refuses.0, h.rest ∙ ap (λ (later : List (Result Line Refusal)). in_source lines ++ later) refuses.1)

nothing_ahead : (reading : Reading) (xs : List ℕ) → reading.held ++ xs ≡ [] → ahead_of reading xs ≡ []
nothing_ahead reading xs is = ap (λ (bytes : List ℕ). judged_from (reading.line + 1) (cut_lines bytes)) is

-- no line comes after the last
pub end_comes : (old new : Reading) (told left left' : Option (List ℕ)) (lines : List Line) → HasRead old told left lines → GivesNext old left None new left' → Comes told lines []
end_comes old new None left left' lines h gives = tt
end_comes old new (Some bytes) None left' lines h gives = absurd h
end_comes old new (Some bytes) (Some xs) None lines h gives = absurd gives
end_comes old new (Some bytes) (Some xs) (Some ys) lines h gives = h.rest ∙ ap (λ (later : List (Result Line Refusal)). in_source lines ++ later) (nothing_ahead old xs gives.0)

-- the same where the source's end was met before
pub end_came : (old : Reading) (told left : Option (List ℕ)) (lines : List Line) → HasRead old told left lines → old.held ≡ [] → IsAtEnd left → Comes told lines []
end_came old None left lines h held end = tt
end_came old (Some bytes) None lines h held end = absurd h
end_came old (Some bytes) (Some xs) lines h held end =
    let all : old.held ++ xs ≡ [] = ap (λ (front : List ℕ). front ++ xs) held ∙ end in
    h.rest ∙ ap (λ (later : List (Result Line Refusal)). in_source lines ++ later) (nothing_ahead old xs all)

count_join : (xs ys : List ℕ) → count_by is_feed (xs ++ ys) ≡ count_by is_feed xs + count_by is_feed ys
count_join xs ys = sum_by-append (λ b. if is_feed b then 1 else 0) xs ys

no_feeds : (bytes : List ℕ) → HoldsNoFeed bytes → count_by is_feed bytes ≡ 0
no_feeds [] plain = refl
no_feeds (b ∷ bytes) plain =
    let other : (b == 10) ≡ false = grind (arith, nat_tests, plain) in
    let rest = no_feeds bytes (grind (arith, nat_tests, plain)) in
    let first : count_by is_feed (b ∷ []) ≡ 0 = rw other refl in
    omega (arith, count_join (b ∷ []) bytes, first, rest)

-- one line more was taken from the source
pub line_taken : (old new : Reading) (told left left' : Option (List ℕ)) (line : Line) (lines : List Line) → HasRead old told left lines → old.ended ≡ false
    → GivesNext old left (Some line) new left' → TakesNext old left (Some line) new left' → HasRead new told left' (line ∷ lines)
line_taken old new None left left' line lines h unended gives takes = tt
line_taken old new (Some bytes) None left' line lines h unended gives takes = absurd h
line_taken old new (Some bytes) (Some xs) None line lines h unended gives takes = absurd gives
line_taken old new (Some bytes) (Some xs) (Some ys) line lines h unended gives takes = record {
  rest = h.rest ∙ ap (λ (later : List (Result Line Refusal)). in_source lines ++ later) gives ∙ sym (one_more line lines (ahead_of new ys));
  taken = λ still.
      let front = h.taken unended in
      let cut = takes still in
      let bytes_of_line = cut.0 ++ 10 ∷ [] in
      let feeds : count_by is_feed bytes_of_line ≡ 1 = count_join cut.0 (10 ∷ []) ∙ ap (λ (n : ℕ). n + 1) (no_feeds cut.0 cut.1) in
      let sum : count_by is_feed (front.0 ++ bytes_of_line) ≡ length (line ∷ lines) = omega (arith, count_join front.0 bytes_of_line, feeds, front.1) in
      let all : bytes ≡ (front.0 ++ bytes_of_line) ++ (new.held ++ ys) =
      front.2 ∙ ap (λ (rest : List ℕ). front.0 ++ rest) (cut.2 ∙ sym (append_assoc cut.0 (10 ∷ []) (new.held ++ ys))) ∙ sym (append_assoc front.0 bytes_of_line (new.held ++ ys)) in
      (front.0 ++ bytes_of_line, sum, all);
}

-- each line that ends in the bytes read was given
pub was_read : BeginsSources → (limits : Limits) (old new : Reading) (told left left' : Option (List ℕ)) (lines : List Line) → AreFlawless limits lines
    → HasRead old told left lines → old.ended ≡ false
    → HoldsNoFeed new.held → Moves old.held left new.held left' → WasReadSo limits told left' lines
was_read law limits old new None left left' lines f h unended plain m = tt
was_read law limits old new (Some bytes) None left' lines f h unended plain m = absurd h
was_read law limits old new (Some bytes) (Some xs) None lines f h unended plain m = absurd m.taken
was_read law limits old new (Some bytes) (Some xs) (Some ys) lines f h unended plain m =
    let front = h.taken unended in
    let read = front.0 ++ new.held in
    let same : old.held ++ xs ≡ new.held ++ ys = rw (m.added, m.taken, append_assoc old.held m.bytes ys) refl in
    let fed : count_by is_feed read ≡ length lines = omega (arith, count_join front.0 new.held, no_feeds new.held plain, front.1) in
    let steps : steps_to limits bytes (count_by is_feed read) ≡ steps_of_events (events_to lines) =
    ap (steps_to limits bytes) fed ∙ steps_given law limits bytes lines (ahead_of old xs) h.rest f in
    record {
      read = read;
      all = front.2 ∙ ap (λ (rest : List ℕ). front.0 ++ rest) same ∙ sym (append_assoc front.0 new.held ys);
      fed = fed;
      flawless = subst HoldsNoEnd (sym steps) (no_end (events_to lines));
    }

-- a reader whose source's end was met gives no line
pub unended : (ended : Bool) (result : Result (Option Line) ReadError) (line : Line) → (IsTrue ended → result ≡ Ok None) → result ≡ Ok (Some line) → ended ≡ false
unended false result line over is = refl
unended true result line over is = let none = over refl in cc

-- and no error
pub no_error : (ended : Bool) (result : Result (Option Line) ReadError) (cause : ReadError) → (IsTrue ended → result ≡ Ok None) → result ≡ Err cause → ended ≡ false
no_error false result cause over is = refl
no_error true result cause over is = let none = over refl in cc

-- whether the source's end was met before or is met now
pub end_by : (ended : Bool) (old new : Reading) (told left left' : Option (List ℕ)) (lines : List Line) → old.ended ≡ ended → HasRead old told left lines
    → (IsTrue old.ended → old.held ≡ []) → (IsTrue old.ended → IsAtEnd left) → (IsTrue old.ended → left' ≡ left)
    → (old.ended ≡ false → GivesNext old left None new left') → (old.ended ≡ false → IsAtEnd left') → Comes told lines [] × IsAtEnd left'
end_by true old new told left left' lines is h held end same gives meets = (end_came old told left lines h (held is) (end is), subst IsAtEnd (sym (same is)) (end is))
end_by false old new told left left' lines is h held end same gives meets = (end_comes old new told left left' lines h (gives is), meets is)

-- the line that the reader refuses comes next
pub refusals_come : (old : Reading) (told left : Option (List ℕ)) (lines : List Line) (refused : Option Refusal) → HasRead old told left lines
    → IfSome refused (λ refusal. RefusesNext old left refusal)
    → IfSome refused (λ refusal. ComesNext told lines (Err refusal))
refusals_come old told left lines None h refuses = tt
refusals_come old told left lines (Some refusal) h refuses = refusal_comes old told left refusal lines h refuses

-- before the first feed
pub fresh_given : HasGiven fresh 0
fresh_given = record { going = refl; counted = refl; few = omega arith; over = λ _. refl }

pub fresh_read : (told : Option (List ℕ)) → HasRead fresh told told []
fresh_read None = tt
fresh_read (Some bytes) = record { rest = refl; taken = λ _. ([], refl, refl) }

later_asked : (bytes left : List ℕ) (feeds more : ℕ) → feeds ≤ more → IsAsked bytes left feeds → IsAsked bytes left more
later_asked bytes left feeds more few (inl none) = inl none
later_asked bytes left feeds more few (inr it) = inr (record { before = it.before; last = it.last; all = it.all; most = it.most; needed = omega (arith, few, it.needed) })

-- what was read for some feeds was read for more
pub read_later : (told left : Option (List ℕ)) (feeds more : ℕ) → feeds ≤ more → HasReadFor told left feeds → HasReadFor told left more
read_later None left feeds more few it = tt
read_later (Some bytes) None feeds more few it = absurd it
read_later (Some bytes) (Some xs) feeds more few it = later_asked bytes xs feeds more few it

-- one feed more reads only for its own line
pub reads_one : (ended : Bool) (old : Reading) (told left left' : Option (List ℕ)) (lines : List Line) → old.ended ≡ ended → HasRead old told left lines → HasReadFor told left (length lines)
    → (IsTrue old.ended → left' ≡ left) → ReadsOnlyForALine old.line old.held left left' → HasReadFor told left' (length lines + 1)
reads_one true old told left left' lines is h asked same reads =
    subst (λ (it : Option (List ℕ)). HasReadFor told it (length lines + 1)) (sym (same is)) (read_later told left (length lines) (length lines + 1) (omega arith) asked)
reads_one false old None left left' lines is h asked same reads = tt
reads_one false old (Some bytes) None left' lines is h asked same reads = absurd h
reads_one false old (Some bytes) (Some xs) None lines is h asked same reads = absurd reads
reads_one false old (Some bytes) (Some xs) (Some ys) lines is h asked same (inl none) =
    subst (λ (it : List ℕ). IsAsked bytes it (length lines + 1)) (sym none) (later_asked bytes xs (length lines) (length lines + 1) (omega arith) asked)
reads_one false old (Some bytes) (Some xs) (Some ys) lines is h asked same (inr it) =
    let front = h.taken is in
    let before = front.0 ++ (old.held ++ it.before) in
    let feeds : count_by is_feed before ≡ length lines = omega (arith, count_join front.0 (old.held ++ it.before), no_feeds (old.held ++ it.before) it.needed, front.1) in
    let rest : old.held ++ xs ≡ (old.held ++ it.before) ++ (it.last ++ ys) = ap (λ (more : List ℕ). old.held ++ more) it.all ∙ sym (append_assoc old.held it.before (it.last ++ ys)) in
    inr (record {
      before = before;
      last = it.last;
      all = front.2 ∙ ap (λ (more : List ℕ). front.0 ++ more) rest ∙ sym (append_assoc front.0 (old.held ++ it.before) (it.last ++ ys));
      most = it.most;
      needed = omega (arith, feeds);
    })

-- at first nothing was read
pub fresh_asked : (told : Option (List ℕ)) → HasReadFor told told 0
fresh_asked None = tt
fresh_asked (Some bytes) = inl refl

-- a feed that reads nothing
pub nothing_read : (line : ℕ) (held : List ℕ) (left : Option (List ℕ)) → ReadsOnlyForALine line held left left
nothing_read line held None = tt
nothing_read line held (Some bytes) = inl refl
