use Rattle.std.proofs.Common.{◌≡◌, ◌≤◌, ◌-◌, length, vec_len}
use Rattle.pyx_source.specs.Moving.{Moves, ReadsOnlyForALine}
use Rattle.pyx_source.proofs.seeking.seek.Given as goal

abbrev pub invariant-reads : goal.invariant-reads
invariant-reads g l = record {
  piece : vec_len l.piece ≡ 65536;
  moved : Moves l.initial.pending (g.S.Source.left l.initial.source) l.pending (g.S.Source.left l.source);
  reads : ReadsOnlyForALine l.initial.line l.initial.pending (g.S.Source.left l.initial.source) (g.S.Source.left l.source);
  later : g.S.Source.faults l.initial.source ≤ g.S.Source.faults l.source;
}

-- each turn but the last adds a byte to what is held, which is at most a line then
abbrev pub decreases-reads : goal.decreases-reads
decreases-reads g l = 1048577 - length l.pending
