use Rattle.std.proofs.Common.{◌≡◌, ◌+◌, ◌≤◌, length, vec_len, vec_capacity}
use Rattle.std.specs.Vec.Iter.{into_iter_items, into_iter_len}
use Rattle.listeners.proofs.Steps.{CarriesOn}
use Rattle.listeners.proofs.telling.tell_all.Given as goal

-- what was left and dropped so far is what the listeners so far make of the messages, and there is room for the rest
abbrev pub invariant-loop-listener : goal.invariant-loop-listener
invariant-loop-listener g l = record {
  counted : into_iter_len l.listener-iterator ≡ length (into_iter_items l.listener-iterator);
  few : l.index + into_iter_len l.listener-iterator ≤ 64;
  left : vec_len l.listeners + into_iter_len l.listener-iterator ≤ vec_capacity l.listeners;
  dropped : vec_len l.dropped + into_iter_len l.listener-iterator ≤ vec_capacity l.dropped;
  carried : CarriesOn l.messages l.fn.listeners.items (into_iter_items l.listener-iterator) l.listeners.items l.dropped.items l.index (λ listener. record {
    heard = (goal.Listener-dyn g (listener.vtable, listener.value)).heard listener.value;
    hearing = (goal.Listener-dyn g (listener.vtable, listener.value)).hearing listener.value;
    faults = (goal.Listener-dyn g (listener.vtable, listener.value)).faults listener.value;
  });
}
