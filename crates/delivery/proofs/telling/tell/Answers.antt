use Rattle.std.proofs.Common.{refl}
use Rattle.delivery.specs.Answer.{text_answer}
use Rattle.delivery.proofs.PairLemmas.{Grows-nil}
use Rattle.delivery.proofs.DeliveryLemmas.{hears_nothing, said_or_failed}
use Rattle.delivery.proofs.telling.tell.Goals as goal

pub returns : goal.returns
returns g c = λ puts heard drawer.
    said_or_failed (text_answer c.args.code c.args.text.now) _ c.args.code c.args.text.now _ _ refl refl c.say.ensures.code c.say.ensures.said c.say.ensures.failed (Grows-nil puts)
    (hears_nothing heard)
