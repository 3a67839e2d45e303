use Rattle.std.proofs.Common.{length, vec_items, vec_len, vec_capacity, ap, ◌∙◌, arith}
use Rattle.std.specs.Vec.Iter.{into_iter_items}
use Rattle.listeners.proofs.Steps.{carries_kept, carries_failed, carries_end, nothing_left}
use Rattle.listeners.proofs.telling.tell_all.Goals as goal
use Rattle.listeners.proofs.telling.tell_all.Goals.{in-Ok, in-Err}

pub loop-listener-preserved : goal.loop-listener-preserved
loop-listener-preserved g c =
    let steps = c.in-Some.ensures.steps in
    let before = c.loop-listener.invariant in
    elim c.match-tell.branch [
      | in-Ok w ↦ record {
        counted = omega (arith, before.counted, ap length steps.0, steps.1);
        few = omega (arith, before.few, steps.1);
        left = omega (arith, before.left, steps.1, ap vec_len w.listeners-is, ap vec_capacity w.listeners-is, w.push_reserved.ensures.len, w.push_reserved.ensures.capacity);
        dropped = omega (arith, before.dropped, steps.1, ap vec_len w.dropped-is, ap vec_capacity w.dropped-is);
        carried = carries_kept c.args.messages.now c.args.listeners.now.items (into_iter_items c.loop-listener.listener-iterator)
            (into_iter_items c.next.new.self) c.loop-listener.listeners.items c.match-tell.listeners.items
            c.loop-listener.dropped.items c.match-tell.dropped.items c.loop-listener.index _ c.in-Some.listener w.in-Ok.listener
            before.carried steps.0 w.in-Ok.ensures.all (ap vec_items w.listeners-is ∙ w.push_reserved.ensures.items) (ap vec_items w.dropped-is);
      }
      | in-Err w ↦ record {
        counted = omega (arith, before.counted, ap length steps.0, steps.1);
        few = omega (arith, before.few, steps.1);
        left = omega (arith, before.left, steps.1, ap vec_len w.listeners-is, ap vec_capacity w.listeners-is);
        dropped = omega (arith, before.dropped, steps.1, ap vec_len w.dropped-is, ap vec_capacity w.dropped-is, w.push_reserved-in-Err.ensures.len, w.push_reserved-in-Err.ensures.capacity);
        carried = carries_failed c.args.messages.now c.args.listeners.now.items (into_iter_items c.loop-listener.listener-iterator)
            (into_iter_items c.next.new.self) c.loop-listener.listeners.items c.match-tell.listeners.items
            c.loop-listener.dropped.items c.match-tell.dropped.items c.loop-listener.index w.in-Err.heard _ c.in-Some.listener _
            before.carried steps.0 w.in-Err.ensures.failed.1 (ap vec_items w.dropped-is ∙ w.push_reserved-in-Err.ensures.items) (ap vec_items w.listeners-is);
      }
    ]

pub returns-clause-told : goal.returns-clause-told
returns-clause-told g c =
    let at = c.loop-listener in
    let steps = c.in-None.ensures.steps in
    let empty = nothing_left (into_iter_items at.listener-iterator) (omega (arith, at.invariant.counted, steps.0)) in
    carries_end c.args.messages.now c.args.listeners.now.items
    (into_iter_items at.listener-iterator) at.listeners.items at.dropped.items c.from_vec.result at.index _ at.invariant.carried empty c.from_vec.ensures
