use Rattle.std.proofs.Common.{◌∙◌, ap}
use Rattle.sessions.specs.Running.{made_of}
use Rattle.sessions.specs.Standing.{steps_of_session}
use Rattle.turn_play.proofs.PlayLemmas.{text-one}
use Rattle.turn_play.proofs.turn.last_turns.Goals as goal

pub loop-reader-preserved : goal.loop-reader-preserved
loop-reader-preserved c =
    let i = c.loop-reader.invariant in
    let e = c.run_one.ensures in
    record {
      said = text-one _ _ _ (λ reader. made_of reader (steps_of_session c.args.session.now)) c.loop-reader.reader _ i.said (ap (made_of c.loop-reader.reader) i.steps) c.in_ok-run_one.ensures.said;
      holds = e.holds;
      readers = e.readers ∙ i.readers;
      steps = e.steps ∙ i.steps;
      answer = c.in_ok-run_one.ensures.answer ∙ i.answer;
    }
