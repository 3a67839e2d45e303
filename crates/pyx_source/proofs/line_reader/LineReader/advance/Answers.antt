use Rattle.std.proofs.Common.{refl, false, true}
use Rattle.pyx_source.proofs.StepLemmas.{step_refused, step_spelled, step_taken}
use Rattle.pyx_source.specs.Reading.{Reading}
use Rattle.pyx_source.proofs.line_reader.LineReader.advance.Goals as goal

pub returns-in-Ok-Line-clause-refused : goal.returns-in-Ok-Line-clause-refused
returns-in-Ok-Line-clause-refused g c =
    let cut = rw c.in-Ok-Line.field-0-is at c.in-Ok-Line.ensures.found in
    let inside = c.self.inside in
    let before : Reading = record { held = inside.pending; line = inside.line; passed = inside.passed; ended = inside.ended; refused = inside.refused } in
    let between : Reading = record { held = c.seek.new.pending; line = inside.line; passed = inside.passed; ended = inside.ended; refused = inside.refused } in
    rw (← c.self.view_is) (step_refused before between _ _ c.in-Ok-Line.at c.give.result cut refl c.give.ensures.refused)

pub returns-in-Ok-Line-clause-spells : goal.returns-in-Ok-Line-clause-spells
returns-in-Ok-Line-clause-spells g c =
    let inside = c.self.inside in
    let between : Reading = record { held = c.seek.new.pending; line = inside.line; passed = inside.passed; ended = inside.ended; refused = inside.refused } in
    step_spelled between _ c.in-Ok-Line.at false c.give.result c.give.ensures.given

pub returns-in-Ok-Last-clause-spells : goal.returns-in-Ok-Last-clause-spells
returns-in-Ok-Last-clause-spells g c =
    let inside = c.self.inside in
    let between : Reading = record { held = c.seek.new.pending; line = inside.line; passed = inside.passed; ended = inside.ended; refused = inside.refused } in
    step_spelled between _ c.in-Ok-Last.at true c.give-in-Ok-Last.result c.give-in-Ok-Last.ensures.given

pub returns-in-Ok-Line-clause-taken : goal.returns-in-Ok-Line-clause-taken
returns-in-Ok-Line-clause-taken g c =
    let held = rw c.in-Ok-Line.field-0-is at c.in-Ok-Line.ensures.held in
    let inside = c.self.inside in
    let before : Reading = record { held = inside.pending; line = inside.line; passed = inside.passed; ended = inside.ended; refused = inside.refused } in
    let between : Reading = record { held = c.seek.new.pending; line = inside.line; passed = inside.passed; ended = inside.ended; refused = inside.refused } in
    rw (← c.self.view_is) (step_taken before between _ _ _ c.in-Ok-Line.at c.give.result c.in-Ok-Line.ensures.moved held c.give.ensures.given)

pub returns-in-Ok-Last-clause-refused : goal.returns-in-Ok-Last-clause-refused
returns-in-Ok-Last-clause-refused g c =
    let cut = rw c.in-Ok-Last.field-0-is at c.in-Ok-Last.ensures.found in
    let inside = c.self.inside in
    let before : Reading = record { held = inside.pending; line = inside.line; passed = inside.passed; ended = inside.ended; refused = inside.refused } in
    let between : Reading = record { held = c.seek.new.pending; line = inside.line; passed = inside.passed; ended = inside.ended; refused = inside.refused } in
    rw (← c.self.view_is) (step_refused before between _ _ c.in-Ok-Last.at c.give-in-Ok-Last.result cut refl c.give-in-Ok-Last.ensures.refused)
