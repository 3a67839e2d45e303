use Rattle.std.proofs.Common.{inl, inr, refl, sym, subst}
use Rattle.delivery.specs.Answer.{made_answer}
use Rattle.delivery.specs.Delivery.{EachHears}
use Rattle.delivery.proofs.PairLemmas.{wrote}
use Rattle.delivery.proofs.DeliveryLemmas.{hears_nothing, said_or_failed}
use Rattle.delivery.proofs.delivering.deliver.Goals as goal

pub returns-in-Ok : goal.returns-in-Ok
returns-in-Ok g c = λ progress heard none text.
    said_or_failed (made_answer c.args.pairs.now c.args.outcomes.now progress) _ c.code_of.result c.args.said.now _ _ c.code_of.ensures.code text
    c.say.ensures.code c.say.ensures.said c.say.ensures.failed c.in-Ok.ensures.all (subst (EachHears heard heard) (sym none) (hears_nothing heard))

pub returns-in-Err : goal.returns-in-Err
returns-in-Err g c = λ progress heard none text.
    inr (inl (record {
      status = refl;
      front = c.in-Err.ensures.front;
      heard = subst (EachHears heard heard) (sym none) (hears_nothing heard);
      rose = c.in-Err.ensures.rose;
      said = rw c.as_bytes.ensures.value at (wrote c.write.result c.as_bytes.result.now (g.C.Sink.written c.args.console.now) (g.C.Sink.written c.write.new.self)
          (g.C.Sink.faults c.args.console.now) (g.C.Sink.faults c.write.new.self) c.write.ensures.written c.write.ensures.cause);
    }))
