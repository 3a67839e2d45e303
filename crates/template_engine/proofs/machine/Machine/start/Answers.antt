use Rattle.std.proofs.Common.{refl, sym}
use Rattle.engine_meaning.specs.Meaning.{at_first}
use Rattle.frame_meaning.proofs.Lasting.{starts_so}
use Rattle.template_engine.proofs.Starting.{root_there, undone_there}
use Rattle.template_engine.proofs.machine.Machine.start.Goals as goal

pub returns-clause-is : goal.returns-clause-is
returns-clause-is g c =
    rw (
      c.in_ok-globals.ensures c.args.sheet.now (sym c.as_slice.ensures),
      c.in_ok-push-2.ensures.ok,
      c.in_ok-push.ensures.ok,
      c.in_ok-frames.ensures,
      c.new.ensures,
      c.new-2.ensures,
      c.new-3.ensures,
      c.new-4.ensures,
      c.in_ok-output.ensures,
      c.asks_size.ensures,
    ) (λ lookups rules steps.
    let root = root_there rules steps in record {
      is = record {
        sheet = refl;
        left = λ w x. starts_so c.args.sheet.now c.args.order w (at_first c.args.budget);
        sound = record {
          root = root;
          sizes = refl;
          globals = undone_there _ c.args.sheet.now.globals;
          locals = tt;
          context = record { node = root; current = root };
          holds = (refl, λ globals. (tt, refl));
        };
      };
    })
