use Rattle.std.proofs.Common.{◌≡◌, ◌<◌, refl, arith, length}
use Rattle.pyx_source.proofs.CutLemmas.{cuts_line, ends, refuses_many, refuses_far, refuses_long}
use Rattle.pyx_source.proofs.seeking.seek.Goals as goal
use Rattle.pyx_source.proofs.seeking.seek.Goals.{else-line-ge-LAST_LINE-via-then-line-ge-LAST_LINE+else-len-gt0, else-line-ge-LAST_LINE-via-else-line-ge-LAST_LINE}

pub returns-then-len-gt0-clause-refused : goal.returns-then-len-gt0-clause-refused
returns-then-len-gt0-clause-refused g c = refuses_many c.args.line c.args.pending.now c.reads.pending _ _ c.reads.invariant.moved (omega arith) (omega arith)

pub returns-then-at-gt-LINE_LIMIT-clause-refused : goal.returns-then-at-gt-LINE_LIMIT-clause-refused
returns-then-at-gt-LINE_LIMIT-clause-refused g c =
    let found = c.in-Some.ensures.found in
    let few : c.args.line < 4294967295 = elim c.else-line-ge-LAST_LINE.branch [
      | else-line-ge-LAST_LINE-via-then-line-ge-LAST_LINE+else-len-gt0 w ↦ absurd (omega (arith, found.0))
      | else-line-ge-LAST_LINE-via-else-line-ge-LAST_LINE w ↦ omega arith
    ] in
    refuses_far c.args.line c.args.pending.now c.reads.pending _ _ c.in-Some.at c.reads.invariant.moved few (omega arith) found.0 found.1 found.2

pub returns-in-Some-clause-found : goal.returns-in-Some-clause-found
returns-in-Some-clause-found g c =
    let found = c.in-Some.ensures.found in
    rw c.in-Some.ensures.same (cuts_line c.args.pending.now c.reads.pending _ _ c.in-Some.at c.reads.invariant.moved found.0 found.1 found.2)

pub returns-then-len-gt-READ_LIMIT-clause-refused : goal.returns-then-len-gt-READ_LIMIT-clause-refused
returns-then-len-gt-READ_LIMIT-clause-refused g c =
    let same : c.line_feed.new.self ≡ c.reads.pending = c.in_default.ensures.same in
    let long : 1048576 < length c.reads.pending = rw (← same) (omega arith) in
    let few : c.args.line < 4294967295 = elim c.else-line-ge-LAST_LINE.branch [
      | else-line-ge-LAST_LINE-via-then-line-ge-LAST_LINE+else-len-gt0 w ↦ absurd (omega arith)
      | else-line-ge-LAST_LINE-via-else-line-ge-LAST_LINE w ↦ omega arith
    ] in
    refuses_long c.args.line c.args.pending.now c.reads.pending _ _ c.reads.invariant.moved few long c.in_default.ensures.none

pub returns-then-branch-eq0-clause-found : goal.returns-then-branch-eq0-clause-found
returns-then-branch-eq0-clause-found g c =
    let same : c.line_feed.new.self ≡ c.reads.pending = c.in_default.ensures.same in
    let read = rw same at c.in_ok-read_piece.ensures.read in
    let zero : c.in_ok-read_piece.field-0 ≡ 0 = omega arith in
    ends c.args.pending.now c.reads.pending c.read_piece.new.pending _ _ _ c.in_ok-read_piece.field-0 c.read_piece.new.piece.items c.at_end.result c.reads.invariant.moved
    c.in_default.ensures.none read.1 read.2 zero (c.in_ok-read_piece.ensures.end (rw zero refl)) c.at_end.ensures.none c.at_end.ensures.last
