use Rattle.std.proofs.Common.{sym, arith}
use Rattle.engine_core.specs.Holding.{scene}
use Rattle.engine_values.proofs.Using.{declared_moves, global_moves, handed_moves, local_moves, none_moves}
use Rattle.engine_values.proofs.uses.use_value.Goals as goal
use Rattle.engine_values.proofs.uses.use_value.Goals.{in-Local+in_ok-push-in-Local, in-Handed+in_ok-push-in-Handed+in_ok-push-in-Handed-2, in-Declared+in_ok-push-in-Declared+in_ok-push-in-Declared-2}
use Rattle.engine_values.proofs.uses.use_value.Goals.{in-Global+in_ok-push-in-Global, then-at-len, else-at-len}

pub returns : goal.returns
returns g c = λ lookups rules steps s v.
    let z = scene g.S.ItemStream.walks g.S.ItemStream.follows lookups rules in
    elim c.match-how.branch [
      | in-Local+in_ok-push-in-Local w ↦
          rw (w.core-is, w.in-Local.is, w.in_ok-push-in-Local.ensures.ok) (local_moves z steps c.args.core.now c.args.value (rw (sym w.in-Local.is) s) v)
      | in-Handed+in_ok-push-in-Handed+in_ok-push-in-Handed-2 w ↦
          rw (w.core-is, w.in-Handed.is, w.in_ok-push-in-Handed-2.ensures.ok, w.in_ok-push-in-Handed.ensures.ok)
          (handed_moves z steps c.args.core.now c.args.value w.in-Handed.name w.in-Handed.passing (rw (sym w.in-Handed.is) s) v)
      | in-Declared+in_ok-push-in-Declared+in_ok-push-in-Declared-2 w ↦
          rw (w.core-is, w.in-Declared.is, w.in_ok-push-in-Declared-2.ensures.ok, w.in_ok-push-in-Declared.ensures.ok)
          (declared_moves z steps c.args.core.now c.args.value w.in-Declared.declaring (rw (sym w.in-Declared.is) s) v)
      | in-Global+in_ok-push-in-Global w ↦ elim w.if-at-len.branch [
        | then-at-len w' ↦ rw (w.core-is, w.in-Global.is, w.in_ok-push-in-Global.ensures.ok, w'.core-is, w'.set.ensures)
            (global_moves z steps c.args.core.now c.args.value w.in-Global.at w.in-Global.left (rw (sym w.in-Global.is) s) v)
        | else-at-len w' ↦ rw (w.core-is, w.in-Global.is, w.in_ok-push-in-Global.ensures.ok, w'.core-is)
            (none_moves z steps c.args.core.now c.args.value w.in-Global.at w.in-Global.left (omega (arith, w'.if-at-len.false, w.len.ensures)) (rw (sym w.in-Global.is) s) v)
      ]
    ]
