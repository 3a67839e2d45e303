use Rattle.std.proofs.Common.{[]}
use Rattle.pyx_events.proofs.progress.Progress.judge.Goals as goal

pub returns-in-Start : goal.returns-in-Start
returns-in-Start c = rw c.in-Start.is (λ limits before taken. c.judge_start.ensures limits before [] taken.nested)

pub returns-in-Instruction : goal.returns-in-Instruction
returns-in-Instruction c = rw c.in-Instruction.is (λ limits before taken. rw (← c.as_slice-in-Instruction.ensures) (c.judge_instruction.ensures limits before [] taken.nested))
