use Rattle.std.proofs.Common.{◌≡◌, Option, Some, None, inl, inr, refl, map, string_bytes, sym, ◌∙◌}
use Rattle.cmd_words.specs.Words.{plan_of}
use Rattle.driver.specs.Judged.{usage_answer, memory_answer}
use Rattle.driver.proofs.JudgedLemmas.{some_plan, unread}
use Rattle.driver.proofs.top.pace.Goals as goal

pub returns-in-Ok-clause-answers : goal.returns-in-Ok-clause-answers
returns-in-Ok-clause-answers g c =
    c.carry_out.ensures (map string_bytes c.args.words.now) _ _ _ c.in-Ok.ensures.plan

pub returns-in-Err-NoPlan-clause-answers : goal.returns-in-Err-NoPlan-clause-answers
returns-in-Err-NoPlan-clause-answers g c =
    let none = c.plan.ensures.no_plan.0 (rw c.in-Err-NoPlan.field-0-is at c.in-Err-NoPlan.is) in
    record {
      due = usage_answer;
      cause = inl (none, refl);
      delivered = c.refuse_words.ensures (g.O.Drawer.puts c.args.drawer.now) _ (g.O.Drawer.faults c.args.drawer.now);
      asked = unread _ (g.S.Source.left c.args.source.now);
    }

pub returns-in-Err-Memory-clause-answers : goal.returns-in-Err-Memory-clause-answers
returns-in-Err-Memory-clause-answers g c =
    let plan = some_plan (plan_of (map string_bytes c.args.words.now))
    (λ none. let is = c.plan.ensures.no_plan.1 none in let memory = c.in-Err-Memory.is in let field = c.in-Err-Memory.field-0-is in cc) in
    record {
      due = memory_answer;
      cause = inr (plan.0, (plan.1, inr (inr refl)));
      delivered = c.starve.ensures (g.O.Drawer.puts c.args.drawer.now) _ (g.O.Drawer.faults c.args.drawer.now);
      asked = unread _ (g.S.Source.left c.args.source.now);
    }
