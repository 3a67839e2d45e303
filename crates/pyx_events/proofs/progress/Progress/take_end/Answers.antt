use Rattle.pyx_events.proofs.progress.Progress.take_end.Goals as goal

pub returns-clause-taken : goal.returns-clause-taken
returns-clause-taken c = λ limits before ready own. record {
  nested = c.take_end.ensures limits before ready.nested own;
  pending = ready.pending;
  text = c.in_ok-events.ensures.text;
}
