-- Written lines are read one by one, each as itself or refused by one of the two limits on lines.
use Rattle.std.proofs.Common.{◌≡◌, ℕ, ◌+◌, List, [], ◌∷◌, Bool, true, false, nat_le, nat_lt, length, if◌then◌else◌, Result, Ok, Err, refl, inl, inr}
use Rattle.std.specs.List.{flat_map}
use Rattle.std.specs.Str.Lines.{strip_carriage_return}
use Rattle.pyx_lines.specs.Lines.{Refusal, TooManyLines, LongLine, cut_lines, judged_from, judged_lines, or_misspelled}
use Rattle.pyx_lines.specs.ReadingBack.{AllWritable, Reads, reads_none, reads_one, refuses_one}
use Rattle.pyx_lines.specs.Spelling.{line_of}
use Rattle.pyx_lines.specs.Writing.{body_of, guarded, written}
use Rattle.pyx_lines.specs.declared.line.Line.{Line}
use Rattle.pyx_lines.proofs.Written.{cut_written, unguarded, line_back}

one_by : (line : Line) (lines : List Line) (results : List (Result Line Refusal)) (cut : List ℕ) (many long : Bool) → or_misspelled (line_of (strip_carriage_return cut)) ≡ Ok line →
    Reads lines results → Reads (line ∷ lines) ((if many then Err TooManyLines else if long then Err LongLine else or_misspelled (line_of (strip_carriage_return cut))) ∷ results)
one_by line lines results cut true long read rest = refuses_one line TooManyLines lines results (inl refl) rest
one_by line lines results cut false true read rest = refuses_one line LongLine lines results (inr refl) rest
one_by line lines results cut false false read rest = rw read (reads_one line lines results rest)

reads_from : (number : ℕ) (lines : List Line) → AllWritable lines → Reads lines (judged_from number (cut_lines (flat_map written lines)))
reads_from number [] all = reads_none
reads_from number (line ∷ lines) all =
    let more = flat_map written lines in
    let read : or_misspelled (line_of (strip_carriage_return (guarded (body_of line)))) ≡ Ok line = rw (unguarded line, line_back line all.0) refl in
    let rest = reads_from (number + 1) lines all.1 in
    rw (cut_written line more all.0)
    (one_by line lines (judged_from (number + 1) (cut_lines more)) (guarded (body_of line)) (nat_le 4294967296 number) (nat_lt 1048576 (length (guarded (body_of line)))) read rest)

pub reads_back : (lines : List Line) → AllWritable lines → Reads lines (judged_lines (flat_map written lines))
reads_back lines all = reads_from 1 lines all
