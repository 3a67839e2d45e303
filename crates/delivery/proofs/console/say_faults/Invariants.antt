use Rattle.std.proofs.Common.{◌≡◌, ◌++◌, length, drop, string_bytes}
use Rattle.delivery.specs.Answer.{fault_text}
use Rattle.delivery.proofs.console.say_faults.Given as goal

abbrev pub invariant-loop-pair : goal.invariant-loop-pair
invariant-loop-pair l =
    string_bytes l.said ++ fault_text (drop (length l.yielded) l.pairs) (drop (length l.yielded) l.outcomes) ≡ string_bytes l.initial.said ++ fault_text l.pairs l.outcomes
