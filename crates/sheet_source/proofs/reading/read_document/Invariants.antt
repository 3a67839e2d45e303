use Rattle.std.proofs.Common.{◌-◌}
use Rattle.sheet_source.specs.Reading.{Carries}
use Rattle.sheet_source.proofs.reading.read_document.Given as goal

abbrev pub invariant-lines : goal.invariant-lines
invariant-lines l = Carries l.bytes l.reader l.source.rest.now l.checker l.building

-- each line has a number, which is at most 4,294,967,295
abbrev pub decreases-lines : goal.decreases-lines
decreases-lines l = 4294967296 - l.reader.line
