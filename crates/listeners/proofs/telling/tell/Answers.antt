use Rattle.std.proofs.Common.{length, refl, arith}
use Rattle.std.proofs.lemmas.Option.{slice_get_read}
use Rattle.listeners.proofs.Steps.{none_yet, failed_next, heard_next, heard_whole}
use Rattle.listeners.proofs.telling.tell.Goals as goal

pub loop-message-init : goal.loop-message-init
loop-message-init g c = (refl, none_yet _)

pub returns-in-Err-clause-failed : goal.returns-in-Err-clause-failed
returns-in-Err-clause-failed g c =
    let messages = c.args.messages.now in
    let k = c.loop-message.message-index in (
      _,
      failed_next messages k c.loop-message.count c.message-item.result _ _ _ c.hear.result _ c.loop-message.invariant.1
          (slice_get_read messages (length messages) k c.message-item.result refl c.loop-message-test.true c.message-item.is) c.hear.ensures c.in-Err.is c.loop-message.invariant.0,
    )

pub loop-message-preserved : goal.loop-message-preserved
loop-message-preserved g c = (
  omega (arith, c.loop-message.invariant.0),
  heard_next c.args.messages.now c.loop-message.message-index c.message-item.result _ _ _ c.hear.result _ c.loop-message.invariant.1
      c.loop-message-test.true c.message-item.is c.hear.ensures c.in-Ok.is,
)

pub returns-clause-all : goal.returns-clause-all
returns-clause-all g c = heard_whole c.args.messages.now c.loop-message.message-index _ _ c.loop-message.invariant.1 (omega (arith, c.loop-message-test.false))
