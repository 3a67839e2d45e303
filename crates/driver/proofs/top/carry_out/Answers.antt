use Rattle.std.proofs.Common.{inl, inr, Err, ap, refl, ◌∙◌}
use Rattle.delivery.specs.Answer.{made_answer, flawed_answer}
use Rattle.driver.specs.Judged.{read_failed_answer, memory_answer}
use Rattle.driver.proofs.TellLemmas.{retold}
use Rattle.driver.proofs.top.carry_out.Goals as goal

pub returns-in-Ok : goal.returns-in-Ok
returns-in-Ok g c = λ words pairs shelf heard is.
    let it = c.in-Ok.ensures.made in
    record {
      due = made_answer c.args.plan.now.pairs c.in-Ok.made.outcomes it.0;
      cause = inr (c.args.plan.now, (is, inl it.1.0));
      delivered = (rw (c.as_slice.ensures, c.as_slice-in-Ok.ensures, c.as_str.ensures.value) at c.deliver.ensures) it.0 heard it.1.1.1 it.1.1.0;
      asked = c.transform.ensures.asked;
    }

pub returns-in-Err-Flawed : goal.returns-in-Err-Flawed
returns-in-Err-Flawed g c = λ words pairs shelf heard is.
    let it = c.in-Err-Flawed.ensures.flawed c.in-Err-Flawed.said (ap (λ stop. Err stop) c.in-Err-Flawed.field-0-is) in
    let told = c.as_str-in-Err-Flawed.ensures.value ∙ it.1.1.1 in
    record {
      due = flawed_answer it.0 it.1.0;
      cause = inr (c.args.plan.now, (is, inl it.1.1.0));
      delivered = retold 4 _ _ _ _ _ told (c.tell.ensures (g.O.Drawer.puts c.args.drawer.now) heard (g.O.Drawer.faults c.args.drawer.now));
      asked = c.transform.ensures.asked;
    }

pub returns-in-Err-Failed : goal.returns-in-Err-Failed
returns-in-Err-Failed g c = λ words pairs shelf heard is.
    let it = c.in-Err-Failed.ensures.failed (ap (λ stop. Err stop) c.in-Err-Failed.field-0-is) in
    record {
      due = read_failed_answer;
      cause = inr (c.args.plan.now, (is, inr (inl (record { rose = it.0; stops = it.1; told = refl }))));
      delivered = c.tell-in-Err-Failed.ensures (g.O.Drawer.puts c.args.drawer.now) heard (g.O.Drawer.faults c.args.drawer.now);
      asked = c.transform.ensures.asked;
    }

pub returns-in-Err-Memory : goal.returns-in-Err-Memory
returns-in-Err-Memory g c = λ words pairs shelf heard is.
    record {
      due = memory_answer;
      cause = inr (c.args.plan.now, (is, inr (inr refl)));
      delivered = c.starve.ensures (g.O.Drawer.puts c.args.drawer.now) heard (g.O.Drawer.faults c.args.drawer.now);
      asked = c.transform.ensures.asked;
    }
