use Rattle.std.proofs.Common.{Some, sym, ◌∙◌}
use Rattle.line_feeder.proofs.Cuts.{some_come}
use Rattle.line_feeder.proofs.Sources.{BeginsSources, begins, going, steps_given}
use Rattle.line_feeder.proofs.laws.fed_lines_are_a_beginning.Goals as goal

pub returns-clause-steps : goal.returns-clause-steps
returns-clause-steps c = λ feeder limits cells bytes left lines h.
    let begun = c.flawless_lines_begin_a_source.ensures in
    let law : BeginsSources = record { flaw = begun.flaw; steps = begun.steps; through = begun.through } in
    let come = some_come feeder.reader (Some bytes) left lines h.read in
    h.filled.built.steps ∙ sym (steps_given law limits bytes lines come.0 come.1 h.filled.built.flawless)

pub returns-clause-going : goal.returns-clause-going
returns-clause-going c = λ feeder limits cells bytes left lines h.
    let begun = c.flawless_lines_begin_a_source.ensures in
    let law : BeginsSources = record { flaw = begun.flaw; steps = begun.steps; through = begun.through } in
    let come = some_come feeder.reader (Some bytes) left lines h.read in
    going limits bytes lines come.0 (begins law limits bytes lines come.0 come.1 h.filled.built.flawless)
