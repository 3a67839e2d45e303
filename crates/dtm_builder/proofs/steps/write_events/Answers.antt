use Rattle.std.proofs.Common.{◌≡◌, ◌∙◌, ◌+◌, arith, List, Result, Ok, Err, None, OnErr, drop, take, sym, subst}
use Rattle.doc_model.specs.declared.step.Step.{Step}
use Rattle.doc_model.specs.Document.{document_of}
use Rattle.pyx_events.specs.Steps.{step_of, steps_of_events}
use Rattle.node_writer.specs.Known.{names_in}
use Rattle.dtm_builder.proofs.Recalling.{event_known}
use Rattle.dtm_builder.proofs.Writing.{first_follows, at_event, steps_more, event_follows, parts}
use Rattle.dtm_builder.proofs.steps.write_events.Goals as goal

on_err : {A E : Type 0} (P : Type 0) (r : Result A E) → P → OnErr r P
on_err P (Ok a) p = tt
on_err P (Err e) p = p

pub write_event-requires-clause-follows : goal.write_event-requires-clause-follows
write_event-requires-clause-follows g c =
    let limits = g.C.GrowCells.limits c.loop-at.c in
    let steps = (g.C.GrowCells.cells c.loop-at.c).steps in
    let events = c.args.events.now in
    let k = c.loop-at.at in
    first_follows limits steps (steps_of_events (drop (k + 1) events)) (step_of c.index-events-at.result)
    (at_event limits steps events k c.index-events-at.result c.loop-at-test.true c.index-events-at.is c.loop-at.invariant.left)

pub write_event-requires-clause-known : goal.write_event-requires-clause-known
write_event-requires-clause-known g c =
    event_known (names_in c.loop-at.writer) c.args.events.now c.loop-at.at c.index-events-at.result c.args.known.now c.known_of.result.now c.loop-at-test.true c.index-events-at.is c.known_of.ensures c.loop-at.invariant.known

pub returns-in_err-write_event-clause-made : goal.returns-in_err-write_event-clause-made
returns-in_err-write_event-clause-made g c =
    let events = c.args.events.now in
    let k = c.loop-at.at in
    on_err _ c.from_residual.result (steps_of_events (take k events), steps_of_events (drop k events), parts events k, c.in_err-write_event.ensures.err ∙ c.loop-at.invariant.steps)

pub returns-in_err-write_event-clause-going : goal.returns-in_err-write_event-clause-going
returns-in_err-write_event-clause-going g c =
    on_err _ c.from_residual.result (subst (λ (all : List Step). (document_of all).ended ≡ None) (sym c.in_err-write_event.ensures.err) c.loop-at.invariant.left.going)

pub loop-at-preserved : goal.loop-at-preserved
loop-at-preserved g c =
    let limits = g.C.GrowCells.limits c.loop-at.c in
    let old = (g.C.GrowCells.cells c.args.c.now).steps in
    let steps = (g.C.GrowCells.cells c.loop-at.c).steps in
    let now = (g.C.GrowCells.cells c.write_event.new.c).steps in
    let events = c.args.events.now in
    let k = c.loop-at.at in
    let x = c.index-events-at.result in
    record {
      stands = c.in_ok-write_event.ensures.stands;
      steps = steps_more events k x old steps now c.loop-at-test.true c.index-events-at.is c.loop-at.invariant.steps c.in_ok-write_event.ensures.steps;
      left = event_follows limits (g.C.GrowCells.limits c.write_event.new.c) steps now (steps_of_events (drop (k + 1) events)) x c.write_event.ensures.limits c.in_ok-write_event.ensures.steps
          (at_event limits steps events k x c.loop-at-test.true c.index-events-at.is c.loop-at.invariant.left);
      known = λ none. absurd (omega (arith, none));
      limits = c.write_event.ensures.limits ∙ c.loop-at.invariant.limits;
      mark = c.write_event.ensures.mark ∙ c.loop-at.invariant.mark;
    }
