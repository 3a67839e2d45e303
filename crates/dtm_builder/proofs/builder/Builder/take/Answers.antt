use Rattle.std.proofs.Common.{◌≡◌, ℕ, ◌+◌, List, ◌∷◌, ◌++◌, false, ap, sym, ◌∙◌, subst, arith}
use Rattle.doc_model.specs.declared.limits.Limits.{Limits}
use Rattle.doc_model.specs.declared.step.Step.{Step}
use Rattle.pyx_events.specs.declared.event.Event.{Event}
use Rattle.pyx_events.specs.Checking as checking
use Rattle.pyx_events.specs.Checking.{Checking}
use Rattle.pyx_events.specs.Counted.{names_of}
use Rattle.pyx_events.specs.Nodes.{line_events, events_to}
use Rattle.pyx_events.specs.Steps.{steps_of_events}
use Rattle.pyx_events.specs.Before.{uris_to}
use Rattle.pyx_events.proofs.Among.{line_keeps}
use Rattle.name_pool.specs.Known.{Index}
use Rattle.node_writer.specs.declared.writer.NodeWriter.{NodeWriter}
use Rattle.node_writer.specs.Known.{AreKnown, names_in}
use Rattle.dtm_builder.specs.declared.names.NameCount.{NameCount}
use Rattle.dtm_builder.specs.Recalled.{Recalls, first_rows}
use Rattle.dtm_builder.proofs.Recalling.{recalls_still, names_keep}
use Rattle.dtm_builder.specs.Judging.{IsCount}
use Rattle.dtm_builder.specs.Lines.{AreFlawless}
use Rattle.dtm_builder.proofs.Opening.{steps_join}
use Rattle.dtm_builder.proofs.Standing.{going, line_follows, line_ends}
use Rattle.dtm_builder.proofs.builder.Builder.take.Goals as goal

pub write-requires-clause-follows : goal.write-requires-clause-follows
write-requires-clause-follows g c =
    let limits = g.C.GrowCells.limits c.args.c.now in
    let cells = g.C.GrowCells.cells c.args.c.now in
    let before = c.requires.stands.0 in
    let s = c.requires.stands.1 in
    line_follows c.args.self.now limits cells before c.args.line c.judge.new.self.checker c.in-Ok.judged.events s c.requires.readable
    (c.in-Ok.ensures.good limits cells before s) (c.in-Ok.ensures.checked limits cells before s) (c.in-Ok.ensures.events limits cells before s)

pub write-requires-clause-known : goal.write-requires-clause-known
write-requires-clause-known g c =
    let limits = g.C.GrowCells.limits c.args.c.now in
    let cells = g.C.GrowCells.cells c.args.c.now in
    let known = c.in-Ok.ensures.known limits cells c.requires.stands.0 c.requires.stands.1 in
    subst (λ (writer : NodeWriter). AreKnown 0 (names_in writer) (first_rows c.in-Ok.judged.events) c.in-Ok.judged.found) (sym c.judge.ensures.same.writer) known

pub returns-in-Err-clause-may : goal.returns-in-Err-clause-may
returns-in-Err-clause-may g c =
    let limits = g.C.GrowCells.limits c.args.c.now in
    let cells = g.C.GrowCells.cells c.args.c.now in
    let before = c.requires.stands.0 in
    let s = c.requires.stands.1 in
    line_ends limits before c.args.line cells.steps c.in-Err.error c.requires.stands.2 (going c.args.self.now limits cells before s) (c.in-Err.ensures.flaw limits cells before s)

pub returns-in-Ok-write-clause-taken : goal.returns-in-Ok-write-clause-taken
returns-in-Ok-write-clause-taken g c before s =
    let limits = g.C.GrowCells.limits c.args.c.now in
    let cells = g.C.GrowCells.cells c.args.c.now in
    let kept = c.in-Ok-write.ensures.taken in
    let same = c.judge.ensures.same in
    let is = c.in-Ok-write.ensures.steps in
    let events = c.in-Ok.ensures.events limits cells before s in
    let new = g.C.GrowCells.limits c.write.new.c in
    let keeps : new ≡ limits = c.write.ensures.limits in
    record {
      going = kept.refusal ∙ same.refusal ∙ s.going;
      limited = kept.limits ∙ same.limits ∙ s.limited ∙ sym keeps;
      lines = kept.lines ∙ ap (λ (n : ℕ). n + 1) (same.lines ∙ s.lines) ∙ omega arith;
      flawless = subst (λ (l : Limits). AreFlawless l (c.args.line ∷ before)) (sym keeps) (c.in-Ok.ensures.good limits cells before s, s.flawless);
      readable = (c.requires.readable, s.readable);
      checked = subst (λ (l : Limits). checking.Stands l c.write.new.self.checker (c.args.line ∷ before)) (sym keeps)
          (subst (λ (it : Checking). checking.Stands limits it (c.args.line ∷ before)) (sym kept.checker) (c.in-Ok.ensures.checked limits cells before s));
      written = c.in-Ok-write.ensures.written;
      names = subst (λ (it : NameCount). IsCount it (names_of false (events_to (c.args.line ∷ before)))) (sym kept.names) (c.in-Ok.ensures.names limits cells before s);
      steps = is ∙ ap (λ (all : List Step). all ++ steps_of_events c.in-Ok.judged.events) s.steps
          ∙ ap (λ (it : List Event). steps_of_events (events_to before) ++ steps_of_events it) events ∙ sym (steps_join (events_to before) (line_events before c.args.line));
      recalled = subst (λ (it : Index). Recalls it (uris_to (c.args.line ∷ before)) (names_in c.write.new.self.writer)) (sym kept.index)
          (recalls_still c.judge.new.self.index (uris_to before) (uris_to (c.args.line ∷ before)) (names_in c.args.self.now.writer) (names_in c.write.new.self.writer) (line_keeps before c.args.line)
          (names_keep c.args.self.now.writer c.write.new.self.writer limits new cells (g.C.GrowCells.cells c.write.new.c)
          (steps_of_events c.in-Ok.judged.events) s.written c.in-Ok-write.ensures.written is)
          (c.in-Ok.ensures.recalled limits cells before s));
    }
