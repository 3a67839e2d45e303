-- The first line of bytes, where it ends in what is held.
use Rattle.std.proofs.Common.{◌≡◌, ℕ, suc, ◌+◌, ◌<◌, ◌≤◌, ◌==◌, List, [], ◌∷◌, ◌++◌, ◌∙◌, Option, Some, None, Bool, true, false, nat_le, nat_lt, Err}
use Rattle.std.proofs.Common.{length, get_or, take, drop, refl, sym, subst, arith, ap, append_assoc, append-nil, length-append}
use Rattle.std.specs.List.{slice_split}
use Rattle.std.specs.Io.KnownBytes.{Consumes, IsAtEnd}
use Rattle.std.proofs.lemmas.Grind.{common_steps}
use Rattle.std.proofs.lemmas.Bool.Decides.{nat_tests}
use Rattle.std.proofs.Math.Seq.{split_at}
use Rattle.pyx_lines.specs.Lines.{without_empty_end, cut_lines, judged, judged_from, Refusal, TooManyLines, LongLine}
use Rattle.pyx_lines.proofs.Written.{cut_lines-feed, split_some}
use Rattle.pyx_source.specs.Feeds.{HoldsNoFeed}
use Rattle.pyx_source.specs.declared.seeking.Found.{Found}
use Rattle.pyx_source.specs.declared.seeking.Found.TheVariants.{Last, End}
use Rattle.pyx_source.specs.Finding.{Cuts, CutsAt, IsOver, Refuses}
use Rattle.pyx_source.specs.Moving.{Moves}
use Rattle.pyx_source.proofs.MoveLemmas.{moved, moves_more}

-- the bytes before the line feed, the line feed and those after it
pub feed_parts : (held more : List ℕ) (at : ℕ) → at < length held → get_or held at 0 ≡ 10 → held ++ more ≡ take at held ++ 10 ∷ (drop (at + 1) held ++ more)
feed_parts held more at within feed =
    let next : at + 1 ≡ suc at = omega arith in
    let parts : held ≡ take at held ++ 10 ∷ drop (suc at) held = rw feed at (split_at held at 0 within) in
    rw next (ap (λ (bytes : List ℕ). bytes ++ more) parts ∙ append_assoc (take at held) (10 ∷ drop (suc at) held) more)

-- up to the first line feed
feed_cut : (held more : List ℕ) (at : ℕ) → at < length held → get_or held at 0 ≡ 10 → HoldsNoFeed (take at held) →
    cut_lines (held ++ more) ≡ take at held ∷ cut_lines (drop (at + 1) held ++ more)
feed_cut held more at within feed plain = rw (feed_parts held more at within feed) (cut_lines-feed (take at held) (drop (at + 1) held ++ more) plain)

head_of : (parts : List (List ℕ)) → 0 < length parts → (part : List ℕ) × ((later : List (List ℕ)) × (parts ≡ part ∷ later))
head_of [] some = absurd (omega arith)
head_of (part ∷ later) some = (part, (later, refl))

-- bytes without a line feed go onto the first part of those after them
split_front : (front more part : List ℕ) (later : List (List ℕ)) → HoldsNoFeed front → slice_split (λ b. b == 10) more ≡ part ∷ later →
    slice_split (λ b. b == 10) (front ++ more) ≡ (front ++ part) ∷ later
split_front [] more part later plain parts = parts
split_front (b ∷ front) more part later plain parts =
    let other : (b == 10) ≡ false = grind (arith, nat_tests, plain) in
    let rest = split_front front more part later (grind (arith, nat_tests, plain)) parts in
    rw (other, rest) refl

kept_part : (part : List ℕ) (later : List (List ℕ)) → 0 < length part → without_empty_end (part ∷ later) ≡ part ∷ without_empty_end later
kept_part part [] some = let full : (length part == 0) ≡ false = grind (arith, nat_tests) in rw full refl
kept_part part (next ∷ later) some = refl

-- a first line that begins with these bytes
pub begins : (front more : List ℕ) → HoldsNoFeed front → 0 < length front → (part : List ℕ) × ((later : List (List ℕ)) × (cut_lines (front ++ more) ≡ (front ++ part) ∷ later))
begins front more plain some =
    let parts = head_of (slice_split (λ b. b == 10) more) (split_some more) in
    let long : 0 < length (front ++ parts.0) = omega (arith, length-append front parts.0) in
    (parts.0, (without_empty_end parts.1.0, rw (split_front front more parts.0 parts.1.0 plain parts.1.1) (kept_part (front ++ parts.0) parts.1.0 long)))

some_by : (b : ℕ) (bytes : List ℕ) (is : Bool) → (b == 10) ≡ is → (part : List ℕ) × ((later : List (List ℕ)) × (cut_lines (b ∷ bytes) ≡ part ∷ later))
some_by b bytes true is =
    let feed : b ≡ 10 = grind (arith, nat_tests, is) in
    ([], (cut_lines bytes, rw feed (cut_lines-feed [] bytes refl)))
some_by b bytes false is =
    let first = begins (b ∷ []) bytes (rw is refl) (omega arith) in
    ((b ∷ []) ++ first.0, (first.1.0, first.1.1))

-- bytes that aren't empty have a first line
pub some_line : (bytes : List ℕ) → 0 < length bytes → (part : List ℕ) × ((later : List (List ℕ)) × (cut_lines bytes ≡ part ∷ later))
some_line [] some = absurd (omega arith)
some_line (b ∷ bytes) some = some_by b bytes (b == 10) refl

split_whole : (bytes : List ℕ) → HoldsNoFeed bytes → slice_split (λ b. b == 10) bytes ≡ bytes ∷ []
split_whole [] plain = refl
split_whole (b ∷ bytes) plain =
    let other : (b == 10) ≡ false = grind (arith, nat_tests, plain) in
    let rest = split_whole bytes (grind (arith, nat_tests, plain)) in
    rw (other, rest) refl

whole_cut : (bytes : List ℕ) → HoldsNoFeed bytes → 0 < length bytes → cut_lines bytes ≡ bytes ∷ []
whole_cut bytes plain some = rw (split_whole bytes plain) (kept_part bytes [] some)

-- a line feed is held
pub cuts_line : (held held' : List ℕ) (left left' : Option (List ℕ)) (at : ℕ) → Moves held left held' left' →
    at < length held' → get_or held' at 0 ≡ 10 → HoldsNoFeed (take at held') → CutsAt held left at held' left'
cuts_line held held' None left' at m within feed plain = tt
cuts_line held held' (Some xs) None at m within feed plain = absurd m.taken
cuts_line held held' (Some xs) (Some ys) at m within feed plain = rw (moved held xs held' ys m) (feed_cut held' ys at within feed plain)

-- the source is at its end, and something is held
pub cuts_last : (held held' : List ℕ) (left left' : Option (List ℕ)) → Moves held left held' left' → IsAtEnd left' →
    HoldsNoFeed held' → 0 < length held' → CutsAt held left (length held') held' left'
cuts_last held held' None left' m end plain some = tt
cuts_last held held' (Some xs) None m end plain some = absurd m.taken
cuts_last held held' (Some xs) (Some ys) m end plain some =
    let all : take (length held') held' ≡ held' = grind (arith, common_steps) in
    let nothing : drop (length held' + 1) held' ≡ [] = grind (arith, common_steps) in
    rw (moved held xs held' ys m, end, append-nil held', all, nothing) (whole_cut held' plain some)

-- the source is at its end, and nothing is held
pub is_over : (held held' : List ℕ) (left left' : Option (List ℕ)) → Moves held left held' left' → IsAtEnd left' → held' ≡ [] → IsOver held left held' left'
is_over held held' None left' m end empty = tt
is_over held held' (Some xs) None m end empty = absurd m.taken
is_over held held' (Some xs) (Some ys) m end empty =
    let nothing : held' ++ ys ≡ [] = rw (empty, end) refl in (moved held xs held' ys m ∙ nothing, nothing)

refuses_first : (line : ℕ) (held held' xs ys : List ℕ) (part : List ℕ) (later : List (List ℕ)) (refusal : Refusal) → held ++ xs ≡ held' ++ ys →
    cut_lines (held' ++ ys) ≡ part ∷ later → judged (line + 1) part ≡ Err refusal → Refuses line held (Some xs) refusal
refuses_first line held held' xs ys part later refusal same cut is = (judged_from (line + 1 + 1) later, rw (same, cut, is) refl)

judged_many : (line : ℕ) (part : List ℕ) → 4294967295 ≤ line → judged (line + 1) part ≡ Err TooManyLines
judged_many line part many = let test : nat_le 4294967296 (line + 1) ≡ true = grind (arith, nat_tests) in rw test refl

judged_long : (line : ℕ) (part : List ℕ) → line < 4294967295 → 1048576 < length part → judged (line + 1) part ≡ Err LongLine
judged_long line part few long =
    let test : nat_le 4294967296 (line + 1) ≡ false = grind (arith, nat_tests) in
    let size : nat_lt 1048576 (length part) ≡ true = grind (arith, nat_tests) in
    rw (test, size) refl

pub refuses_many : (line : ℕ) (held held' : List ℕ) (left left' : Option (List ℕ)) → Moves held left held' left' → 4294967295 ≤ line → 0 < length held' → Refuses line held left TooManyLines
refuses_many line held held' None left' m many some = tt
refuses_many line held held' (Some xs) None m many some = absurd m.taken
refuses_many line held held' (Some xs) (Some ys) m many some =
    let first = some_line (held' ++ ys) (omega (arith, length-append held' ys)) in
    refuses_first line held held' xs ys first.0 first.1.0 TooManyLines (moved held xs held' ys m) first.1.1 (judged_many line first.0 many)

-- a line feed is held too late
pub refuses_far : (line : ℕ) (held held' : List ℕ) (left left' : Option (List ℕ)) (at : ℕ) → Moves held left held' left' → line < 4294967295 → 1048576 < at →
    at < length held' → get_or held' at 0 ≡ 10 → HoldsNoFeed (take at held') → Refuses line held left LongLine
refuses_far line held held' None left' at m few far within feed plain = tt
refuses_far line held held' (Some xs) None at m few far within feed plain = absurd m.taken
refuses_far line held held' (Some xs) (Some ys) at m few far within feed plain =
    let long : 1048576 < length (take at held') = grind (arith, common_steps) in
    refuses_first line held held' xs ys (take at held') (cut_lines (drop (at + 1) held' ++ ys)) LongLine (moved held xs held' ys m) (feed_cut held' ys at within feed plain)
    (judged_long line (take at held') few long)

-- too much is held without a line feed
pub refuses_long : (line : ℕ) (held held' : List ℕ) (left left' : Option (List ℕ)) → Moves held left held' left' → line < 4294967295 → 1048576 < length held' →
    HoldsNoFeed held' → Refuses line held left LongLine
refuses_long line held held' None left' m few far plain = tt
refuses_long line held held' (Some xs) None m few far plain = absurd m.taken
refuses_long line held held' (Some xs) (Some ys) m few far plain =
    let first = begins held' ys plain (omega arith) in
    let long : 1048576 < length (held' ++ first.0) = omega (arith, length-append held' first.0) in
    refuses_first line held held' xs ys (held' ++ first.0) first.1.0 LongLine (moved held xs held' ys m) first.1.1 (judged_long line (held' ++ first.0) few long)

ends_by : (held held' : List ℕ) (left left' : Option (List ℕ)) (found : Found) → Moves held left held' left' → IsAtEnd left' → HoldsNoFeed held' →
    (held' ≡ [] → found ≡ End) → (0 < length held' → found ≡ Last (length held')) → Cuts held left found held' left'
ends_by held [] left left' found m end plain none last = subst (λ (it : Found). Cuts held left it [] left') (sym (none refl)) (is_over held [] left left' m end refl)
ends_by held (b ∷ rest) left left' found m end plain none last =
    let some : 0 < length (b ∷ rest) = omega arith in
    subst (λ (it : Found). Cuts held left it (b ∷ rest) left') (sym (last some)) (cuts_last held (b ∷ rest) left left' m end plain some)

-- a read of no byte meets the source's end
pub ends : (held mid held' : List ℕ) (left between left' : Option (List ℕ)) (count : ℕ) (bytes : List ℕ) (found : Found) → Moves held left mid between → HoldsNoFeed mid →
    held' ≡ mid ++ take count bytes → Consumes between left' (take count bytes) → count ≡ 0 → IsAtEnd left' →
    (held' ≡ [] → found ≡ End) → (0 < length held' → found ≡ Last (length held')) → Cuts held left found held' left'
ends held mid held' left between left' count bytes found m plain added taken empty end none last =
    let nothing : take count bytes ≡ [] = rw empty refl in
    let same : held' ≡ mid = added ∙ (rw (nothing, append-nil mid) refl) in
    ends_by held held' left left' found (moves_more held mid held' left between left' (take count bytes) m added taken) end (subst HoldsNoFeed (sym same) plain) none last
