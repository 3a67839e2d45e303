use Rattle.std.proofs.Common.{◌≡◌, take}
use Rattle.listeners.specs.Telling.{HeardAll}
use Rattle.listeners.proofs.telling.tell.Given as goal

-- the listener heard the messages so far
abbrev pub invariant-loop-message : goal.invariant-loop-message
invariant-loop-message g l = (l.count ≡ l.message-index) × HeardAll (take l.message-index l.messages)
    (record {
      heard = (goal.Listener-dyn g (l.fn.listener.vtable, l.fn.listener.value)).heard l.fn.listener.value;
      hearing = (goal.Listener-dyn g (l.fn.listener.vtable, l.fn.listener.value)).hearing l.fn.listener.value;
      faults = (goal.Listener-dyn g (l.fn.listener.vtable, l.fn.listener.value)).faults l.fn.listener.value;
    })
    (record {
      heard = (goal.Listener-dyn g (l.told.vtable, l.told.value)).heard l.told.value;
      hearing = (goal.Listener-dyn g (l.told.vtable, l.told.value)).hearing l.told.value;
      faults = (goal.Listener-dyn g (l.told.vtable, l.told.value)).faults l.told.value;
    })
