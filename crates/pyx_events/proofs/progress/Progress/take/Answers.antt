use Rattle.pyx_events.proofs.progress.Progress.take.Goals as goal

pub returns-in-Start-clause-events : goal.returns-in-Start-clause-events
returns-in-Start-clause-events c = rw c.in-Start.is c.take_start.ensures.events

pub returns-in-End-clause-events : goal.returns-in-End-clause-events
returns-in-End-clause-events c = rw c.in-End.is c.take_end.ensures.events

pub returns-in-Instruction-clause-events : goal.returns-in-Instruction-clause-events
returns-in-Instruction-clause-events c = rw c.in-Instruction.is c.take_instruction.ensures.events

pub returns-in-Comment-clause-events : goal.returns-in-Comment-clause-events
returns-in-Comment-clause-events c = rw c.in-Comment.is c.take_comment.ensures.events
