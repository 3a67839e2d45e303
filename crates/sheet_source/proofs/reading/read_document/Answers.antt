use Rattle.std.proofs.Common.{◌≡◌, ◌++◌, ◌∷◌, ◌∙◌, [], ap, subst, sym, false, Some, Ok}
use Rattle.pyx_source.specs.Reading.{ahead_of}
use Rattle.sheet_source.specs.Answers.{Answers}
use Rattle.sheet_source.specs.Nodes.{source_of}
use Rattle.sheet_source.proofs.Lines.{at_end, carries_first, carries_on, handed_on, is_going, line_stopped, nothing_left}
use Rattle.sheet_source.proofs.reading.read_document.Goals as goal

pub lines-init : goal.lines-init
lines-init c =
    carries_first c.args.bytes.now c.in_ok-reader.reader c.in_ok-checker.checker c.start-building.result c.in_ok-reader.ensures c.in_ok-checker.ensures c.start-building.ensures

pub lines-preserved : goal.lines-preserved
lines-preserved c =
    let it = c.lines.invariant in
    let was : c.next.result ≡ Ok (Some c.in-Ok-Some.line) = c.in-Ok-Some.is ∙ ap Ok c.in-Ok-Some.field-0-is in
    let going : c.lines.reader.ended ≡ false = is_going c.lines.reader.ended c.next.result c.in-Ok-Some.line was (λ ended. (c.next.ensures.over it.going ended).0) in
    let counts = rw c.in-Ok-Some.field-0-is at c.in-Ok-Some.ensures.counted in
    carries_on c.args.bytes.now c.lines.reader c.next.new.self c.lines.source.rest.now c.next.new.source.rest.now c.lines.checker c.take_line.new.checker c.lines.building c.take_line.new.building
    c.in-Ok-Some.line it (c.in_ok-take_line-in-Ok-Some.ensures.taken it.before it.stands) (rw c.in-Ok-Some.field-0-is at (c.in-Ok-Some.ensures.given going)) counts
    (λ ended. (c.next.ensures.nothing ended, c.next.ensures.end going ended counts.3))

pub returns-in_err-take_line-in-Ok-Some : goal.returns-in_err-take_line-in-Ok-Some
returns-in_err-take_line-in-Ok-Some c =
    let it = c.lines.invariant in
    let e = c.in_err-take_line-in-Ok-Some.field-0.0 in
    let was : c.next.result ≡ Ok (Some c.in-Ok-Some.line) = c.in-Ok-Some.is ∙ ap Ok c.in-Ok-Some.field-0-is in
    let going : c.lines.reader.ended ≡ false = is_going c.lines.reader.ended c.next.result c.in-Ok-Some.line was (λ ended. (c.next.ensures.over it.going ended).0) in
    let given : ahead_of c.lines.reader c.lines.source.rest.now ≡ Ok c.in-Ok-Some.line ∷ ahead_of c.next.new.self c.next.new.source.rest.now =
    rw c.in-Ok-Some.field-0-is at (c.in-Ok-Some.ensures.given going) in
    handed_on (source_of c.args.bytes.now) c.from_residual-in_err-take_line-in-Ok-Some.result e c.from_residual-in_err-take_line-in-Ok-Some.ensures.1
    (line_stopped (source_of c.args.bytes.now) c.lines.building it.before c.in-Ok-Some.line (ahead_of c.lines.reader c.lines.source.rest.now)
    (ahead_of c.next.new.self c.next.new.source.rest.now) e it.rest given
    (c.in_err-take_line-in-Ok-Some.ensures.refused it.before it.stands))

pub returns-in-Ok-None : goal.returns-in-Ok-None
returns-in-Ok-None c =
    let it = c.lines.invariant in
    let left = c.lines.source.rest.now in
    let none : c.lines.reader.held ++ left ≡ [] = nothing_left c.lines.reader.ended (c.lines.reader.held ++ left ≡ []) (λ going. (rw c.in-Ok-None.field-0-is at (c.in-Ok-None.ensures.given going)).0)
    (λ ended. ap (λ held. held ++ left) (it.over ended).0 ∙ (it.over ended).1) in
    subst (λ meant. Answers meant c.close.result) (sym (at_end c.args.bytes.now c.lines.reader left c.lines.checker c.lines.building it none)) (c.close.ensures it.before it.stands)
