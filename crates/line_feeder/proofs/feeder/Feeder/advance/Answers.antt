use Rattle.std.proofs.Common.{◌≡◌, ℕ, ◌+◌, [], ◌∷◌, ◌++◌, Option, Ok, Err, length, refl, sym, ◌∙◌, ap, subst, arith}
use Rattle.doc_model.specs.declared.step.Step.TheVariants.{End}
use Rattle.pyx_lines.specs.declared.line.Line.{Line}
use Rattle.pyx_source.specs.declared.read_error.ReadError.{ReadError}
use Rattle.pyx_source.specs.declared.read_error.ReadError.TheVariants as error
use Rattle.pyx_source.specs.Reading.{refusal_of, lines_by}
use Rattle.line_feeder.specs.declared.fed.Fed.{Fed}
use Rattle.line_feeder.specs.Answering.{FeedIs, verdict_for}
use Rattle.line_feeder.specs.Feeding.{WasReadSo}
use Rattle.line_feeder.specs.Reads.{HasReadFor}
use Rattle.line_feeder.proofs.Cuts.{line_taken, line_comes, end_by, some_come, refusals_come, was_read, unended, no_error, reads_one}
use Rattle.line_feeder.proofs.Sources.{BeginsSources}
use Rattle.line_feeder.proofs.Answers.{line_fed, end_fed, stop_fed}
use Rattle.line_feeder.proofs.feeder.Feeder.advance.Goals as goal

pub build_line-requires-clause-readable : goal.build_line-requires-clause-readable
build_line-requires-clause-readable g c =
    let spelled = rw c.in-Ok-Some.field-0-is at c.in-Ok-Some.ensures.spells in
    c.what_is_read_is_readable.ensures spelled.0 c.in-Ok-Some.line spelled.1

pub build_line-requires-clause-stands : goal.build_line-requires-clause-stands
build_line-requires-clause-stands g c =
    let fed = c.requires.fills c.requires.going in
    let counted = rw c.in-Ok-Some.field-0-is at c.in-Ok-Some.ensures.counted in
    (fed.0, fed.1.built, omega (arith, counted.0, counted.2, fed.1.given.counted))

pub build_end-requires : goal.build_end-requires
build_end-requires g c =
    let fed = c.requires.fills c.requires.going in
    (fed.0, fed.1.built, omega (arith, fed.1.given.few))

pub stop-requires-clause-stands : goal.stop-requires-clause-stands
stop-requires-clause-stands g c =
    let fed = c.requires.fills c.requires.going in
    (fed.0, fed.1.built)

pub returns-in-Ok-Some-clause-filled : goal.returns-in-Ok-Some-clause-filled
returns-in-Ok-Some-clause-filled g c = λ is.
    let fed = c.requires.fills c.requires.going in
    let counted = rw c.in-Ok-Some.field-0-is at c.in-Ok-Some.ensures.counted in (
      c.in-Ok-Some.line ∷ fed.0,
      record {
        built = c.build_line.ensures.built fed.0 fed.1.built is;
        given = record {
          going = counted.3;
          counted = omega (arith, counted.0, fed.1.given.counted);
          few = omega (arith, counted.0, counted.2, fed.1.given.counted);
          over = c.next.ensures.nothing;
        };
      },
    )

pub returns-in-Ok-Some-clause-line : goal.returns-in-Ok-Some-clause-line
returns-in-Ok-Some-clause-line g c = λ told lines h is.
    let old = c.args.self.now in
    let new = c.next.new.self in
    let line = c.in-Ok-Some.line in
    let given = rw c.in-Ok-Some.field-0-is at c.in-Ok-Some.ensures.given in
    let takes = rw c.in-Ok-Some.field-0-is at c.in-Ok-Some.ensures.taken in
    let counted = rw c.in-Ok-Some.field-0-is at c.in-Ok-Some.ensures.counted in
    let over = c.next.ensures.over h.filled.given.going in
    let still = unended old.reader.ended c.next.result line (λ ended. (over ended).0) (c.in-Ok-Some.is ∙ ap (λ (it : Option Line). Ok it) c.in-Ok-Some.field-0-is) in
    let one : length lines + 1 ≡ length (line ∷ lines) = omega arith in (
      line,
      record {
        going = h.going;
        filled = record {
          built = c.build_line.ensures.built lines h.filled.built is;
          given = record {
            going = counted.3;
            counted = omega (arith, counted.0, h.filled.given.counted);
            few = omega (arith, counted.0, counted.2, h.filled.given.counted);
            over = c.next.ensures.nothing;
          };
        };
        end = λ ended. c.next.ensures.end still ended counted.3;
        read = line_taken old.reader new told _ _ line lines h.read still (given still) (takes still);
        asked = subst (HasReadFor told (g.S.Source.left c.next.new.source)) one
            (reads_one old.reader.ended old.reader told _ _ lines refl h.read h.asked (λ ended. ap g.S.Source.left (over ended).2) c.next.ensures.reads);
      },
    )

pub returns-in-Ok-Some-clause-answer : goal.returns-in-Ok-Some-clause-answer
returns-in-Ok-Some-clause-answer g c = λ told lines h.
    let begun = c.flawless_lines_begin_a_source.ensures in
    let law : BeginsSources = record { flaw = begun.flaw; steps = begun.steps; through = begun.through } in
    let old = c.args.self.now in
    let new = c.next.new.self in
    let line = c.in-Ok-Some.line in
    let given = rw c.in-Ok-Some.field-0-is at c.in-Ok-Some.ensures.given in
    let still = unended old.reader.ended c.next.result line (λ ended. (c.next.ensures.over h.filled.given.going ended).0)
    (c.in-Ok-Some.is ∙ ap (λ (it : Option Line). Ok it) c.in-Ok-Some.field-0-is) in
    line_fed law _ told _ lines line _ _ c.build_line.result h.filled.built.flawless h.filled.built.steps
    (line_comes old.reader new told _ _ line lines h.read (given still)) (c.build_line.ensures.answer lines h.filled.built)

pub returns-in-Ok-None-clause-answer : goal.returns-in-Ok-None-clause-answer
returns-in-Ok-None-clause-answer g c = λ told lines h.
    let begun = c.flawless_lines_begin_a_source.ensures in
    let law : BeginsSources = record { flaw = begun.flaw; steps = begun.steps; through = begun.through } in
    let old = c.args.self.now in
    let new = c.next.new.self in
    let given = rw c.in-Ok-None.field-0-is at c.in-Ok-None.ensures.given in
    let counted = rw c.in-Ok-None.field-0-is at c.in-Ok-None.ensures.counted in
    let end = end_by old.reader.ended old.reader new told (g.S.Source.left c.args.source.now) (g.S.Source.left c.next.new.source) lines refl h.read h.filled.given.over h.end
    (λ ended. ap g.S.Source.left (c.next.ensures.over h.filled.given.going ended).2) given (λ still. c.next.ensures.end still counted.2 counted.3) in
    end_fed law _ told _ lines _ _ c.build_end.result h.filled.built.flawless h.filled.built.steps end.0 end.1 (c.build_end.ensures.answer lines h.filled.built)

pub returns-in-Err-clause-answer : goal.returns-in-Err-clause-answer
returns-in-Err-clause-answer g c = λ told lines h.
    let begun = c.flawless_lines_begin_a_source.ensures in
    let law : BeginsSources = record { flaw = begun.flaw; steps = begun.steps; through = begun.through } in
    let old = c.args.self.now in
    let new = c.next.new.self in
    let cause = c.in-Err.error in
    let limits = g.C.GrowCells.limits c.args.table.now in
    let from = (g.C.GrowCells.cells c.args.table.now).steps in
    let to = (g.C.GrowCells.cells c.stop.new.table).steps in
    let left = g.S.Source.left c.next.new.source in
    let still = no_error old.reader.ended c.next.result cause (λ ended. (c.next.ensures.over h.filled.given.going ended).0) c.in-Err.is in
    let kept = c.in-Err.ensures.kept h.filled.given.going in
    let line = c.line.ensures.line ∙ kept.line ∙ ap (λ (n : ℕ). n + lines_by cause) h.filled.given.counted in
    let read : cause ≡ error.Failed → WasReadSo limits told left lines = λ failed.
    let it = c.next.ensures.whole h.filled.given.going (c.in-Err.is ∙ ap (λ (e : ReadError). Err e) failed) in
    was_read law limits old.reader new told _ left lines h.filled.built.flawless h.read still it.0 it.1 in
    let steps = c.stop.ensures.steps ∙ ap (λ (fed : Fed). from ++ End (verdict_for fed) ∷ []) c.stop.ensures.answer in
    subst (λ (fed : Fed). FeedIs limits told left lines from to fed) (sym c.stop.ensures.answer)
    (stop_fed law limits told left lines cause c.line.result from to h.filled.built.flawless h.filled.built.steps (some_come old.reader told _ lines h.read)
    (refusals_come old.reader told _ lines (refusal_of cause) h.read (c.in-Err.ensures.refused h.filled.given.going)) read line steps)

pub returns-in-Err-clause-grows : goal.returns-in-Err-clause-grows
returns-in-Err-clause-grows g c = (_, sym c.stop.ensures.steps)

pub returns-in-Ok-Some-clause-asked : goal.returns-in-Ok-Some-clause-asked
returns-in-Ok-Some-clause-asked g c = λ told lines h.
    reads_one c.args.self.now.reader.ended c.args.self.now.reader told _ _ lines refl h.read h.asked
    (λ ended. ap g.S.Source.left (c.next.ensures.over h.filled.given.going ended).2) c.next.ensures.reads

pub returns-in-Ok-None-clause-asked : goal.returns-in-Ok-None-clause-asked
returns-in-Ok-None-clause-asked g c = λ told lines h.
    reads_one c.args.self.now.reader.ended c.args.self.now.reader told _ _ lines refl h.read h.asked
    (λ ended. ap g.S.Source.left (c.next.ensures.over h.filled.given.going ended).2) c.next.ensures.reads

pub returns-in-Err-clause-asked : goal.returns-in-Err-clause-asked
returns-in-Err-clause-asked g c = λ told lines h.
    reads_one c.args.self.now.reader.ended c.args.self.now.reader told _ _ lines refl h.read h.asked
    (λ ended. ap g.S.Source.left (c.next.ensures.over h.filled.given.going ended).2) c.next.ensures.reads

pub returns-in-Ok-Some-clause-over : goal.returns-in-Ok-Some-clause-over
returns-in-Ok-Some-clause-over g c = λ ended. (c.next.ensures.over (c.requires.fills c.requires.going).1.given.going ended).2

pub returns-in-Ok-None-clause-over : goal.returns-in-Ok-None-clause-over
returns-in-Ok-None-clause-over g c = λ ended. (c.next.ensures.over (c.requires.fills c.requires.going).1.given.going ended).2

pub returns-in-Err-clause-over : goal.returns-in-Err-clause-over
returns-in-Err-clause-over g c = λ ended. (c.next.ensures.over (c.requires.fills c.requires.going).1.given.going ended).2

pub returns-in-Ok-Some-clause-counted : goal.returns-in-Ok-Some-clause-counted
returns-in-Ok-Some-clause-counted g c = λ _.
    let counted = rw c.in-Ok-Some.field-0-is at c.in-Ok-Some.ensures.counted in
    (counted.0, counted.2)
