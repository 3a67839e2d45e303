use Rattle.std.proofs.Common.{◌≡◌, ◌++◌, length, string_bytes}
use Rattle.sessions.specs.Running.{made_of}
use Rattle.sessions.specs.Standing.{Holds, answer_of, counts_of, steps_of_session}
use Rattle.turn_play.specs.Progress.{progress_text}
use Rattle.turn_play.specs.Turns.{last_runs}
use Rattle.turn_play.proofs.turn.last_turns.Given as goal

abbrev pub invariant-loop-reader : goal.invariant-loop-reader
invariant-loop-reader l = record {
  said : string_bytes l.said ≡ string_bytes l.initial.said ++ progress_text (last_runs l.reader (λ reader. made_of reader (steps_of_session l.initial.session)));
  holds : Holds l.session;
  readers : length (counts_of l.session) ≡ length (counts_of l.initial.session);
  steps : steps_of_session l.session ≡ steps_of_session l.initial.session;
  answer : answer_of l.session ≡ answer_of l.initial.session;
}
